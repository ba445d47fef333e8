-- No more are asked for than are left, and the ending is the source's, or comes after them.
use Rattle.std.proofs.Common.{rules, ◌≡◌, ◌<◌, ◌++◌, ◌∙◌, min, ap, sym, arith}
use Rattle.plinq_source.specs.Trace.{items_from, ending_within}
use Rattle.plinq_passing.proofs.FirstOnes.{items-limited, ending-before, ending-limited}
use Rattle.plinq_passing.proofs.limited.LimitedSource.fill.Goals as goal

pub returns-in-Some-clause-ending : goal.returns-in-Some-clause-ending
returns-in-Some-clause-ending g c =
    let s = c.args.self.now in
    let least : c.min-most.result ≡ min c.args.n s.left = search rules in
    sym (ending-before (g.S.Source.whole s.source) (g.S.Source.given s.source) s.left c.args.n c.min-most.result c.in-Some.ending least
    (sym c.fill.ensures.ending ∙ c.in-Some.is))

pub returns-then-most-n-clause-filled : goal.returns-then-most-n-clause-filled
returns-then-most-n-clause-filled g c =
    let s = c.args.self.now in
    let t = g.S.Source.whole s.source in
    let least : c.min-most.result ≡ min c.args.n s.left = search rules in
    c.fill.ensures.filled
    ∙ ap (λ m. c.args.items.now.items ++ items_from t (g.S.Source.given s.source) m) least
    ∙ ap (λ ys. c.args.items.now.items ++ ys) (sym (items-limited t (g.S.Source.given s.source) s.left c.args.n))

pub returns-else-most-n-clause-filled : goal.returns-else-most-n-clause-filled
returns-else-most-n-clause-filled g c =
    let s = c.args.self.now in
    let t = g.S.Source.whole s.source in
    let least : c.min-most.result ≡ min c.args.n s.left = search rules in
    c.fill.ensures.filled
    ∙ ap (λ m. c.args.items.now.items ++ items_from t (g.S.Source.given s.source) m) least
    ∙ ap (λ ys. c.args.items.now.items ++ ys) (sym (items-limited t (g.S.Source.given s.source) s.left c.args.n))

pub returns-then-most-n-clause-ending : goal.returns-then-most-n-clause-ending
returns-then-most-n-clause-ending g c =
    let s = c.args.self.now in
    let t = g.S.Source.whole s.source in
    let least : c.min-most.result ≡ min c.args.n s.left = search rules in
    let fewer : c.min-most.result < c.args.n = search rules in
    let most : s.left ≡ c.min-most.result = omega (arith, least, fewer) in
    sym (ending-limited t (g.S.Source.given s.source) s.left c.args.n (g.met.S.Source.ends s.source) (g.met.S.Source.within s.source)
    (ap (ending_within t (g.S.Source.given s.source)) most ∙ sym c.fill.ensures.ending ∙ c.in-None.is) (omega (arith, least, fewer)))
