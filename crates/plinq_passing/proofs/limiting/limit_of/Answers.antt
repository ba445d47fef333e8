-- Steps that leave items out may need all; else the steps by position say how many are enough.
use Rattle.std.proofs.Common.{rules, ◌≡◌, true, ap, arith}
use Rattle.plinq_passing.specs.Ran.{left_trace}
use Rattle.plinq_passing.proofs.FirstOnes.{whole-limited, limited-left}
use Rattle.plinq_passing.proofs.limiting.limit_of.Goals as goal

pub returns-then-not-keeps_all : goal.returns-then-not-keeps_all
returns-then-not-keeps_all g c f makes h d means t few = ap (left_trace f h d) (whole-limited 18446744073709551615 t (omega (arith, few)))

pub returns-in-None : goal.returns-in-None
returns-in-None g c f makes h d means t few = ap (left_trace f h d) (whole-limited 18446744073709551615 t (omega (arith, few)))

pub returns-in-Some : goal.returns-in-Some
returns-in-Some g c f makes h d means t few =
    let keeps : c.keeps_all.result ≡ true = search rules in
    let all = c.keeps_all.ensures keeps in
    limited-left f h d (g.L.Positional.means c.args.later.now) means (λ x. all x (f x) (makes x)) c.in-Some.n c.in-Some.ensures t
