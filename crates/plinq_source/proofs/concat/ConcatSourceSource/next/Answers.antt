-- The first source is asked until it ends, and then the second.
use Rattle.std.proofs.Common.{length, arith, sym, ap, ◌∙◌}
use Rattle.plinq_source.proofs.Steps.{at_end}
use Rattle.plinq_source.proofs.Concats.{step_at-second, given_after-second}
use Rattle.plinq_source.proofs.concat.ConcatSourceSource.next.Goals as goal

pub returns-then-self-clause-step : goal.returns-then-self-clause-step
returns-then-self-clause-step g c =
    let s = c.args.self.now in
    let ended = c.if-self.true in
    c.next.ensures.step
    ∙ sym (step_at-second (g.A.Source.whole s.first) (g.B.Source.whole s.second) (g.A.Source.given s.first) (g.B.Source.given s.second) (s.all ended)
    (s.ends ended))

pub invariant_of-self-in-End : goal.invariant_of-self-in-End
invariant_of-self-in-End g c =
    let s = c.args.self.now in
    let a = g.A.Source.whole s.first in
    let at = at_end a (g.A.Source.given s.first) (g.met.A.Source.ends s.first) (g.met.A.Source.within s.first) (sym c.next-2.ensures.step ∙ c.in-End.is) in
    let same = ap (λ t. length t.items) c.next-2.ensures.same in
    record {
      few = omega (arith, s.few, same, ap (λ t. length t.items) c.next-in-End.ensures.same);
      unasked = λ w. absurd (cc);
      all = λ w. c.next-2.ensures.moved ∙ at.moved ∙ at.all ∙ sym same;
      ends = λ w. ap (λ t. t.ending) c.next-2.ensures.same ∙ at.ends;
    }

pub returns-in-End-clause-moved : goal.returns-in-End-clause-moved
returns-in-End-clause-moved g c =
    let s = c.args.self.now in
    let a = g.A.Source.whole s.first in
    let b = g.B.Source.whole s.second in
    let at = at_end a (g.A.Source.given s.first) (g.met.A.Source.ends s.first) (g.met.A.Source.within s.first) (sym c.next-2.ensures.step ∙ c.in-End.is) in
    let more = given_after-second a b (g.A.Source.given s.first) (g.B.Source.given s.second) at.all at.ends in
    omega (arith, c.next-2.ensures.moved, at.moved, c.next-in-End.ensures.moved, more)
