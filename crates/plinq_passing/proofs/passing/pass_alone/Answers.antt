-- What is passed on is what the steps by position make of the list.
use Rattle.std.specs.Prelude.{[], true, false, None}
use Rattle.std.specs.List.{filter_map}
use Rattle.std.proofs.Common.{rules, ◌≡◌, refl, ap, sym, subst}
use Rattle.plinq_merge.specs.Sending.{Leads}
use Rattle.plinq_passing.specs.Ran.{ended_unless}
use Rattle.plinq_passing.proofs.Carrying.{passed-ran}
use Rattle.plinq_passing.proofs.Touching.{ran-touches, carried-touches}
use Rattle.plinq_passing.proofs.passing.pass_alone.Goals as goal

pub returns-then-has_ended-clause-passed : goal.returns-then-has_ended-clause-passed
returns-then-has_ended-clause-passed g c f makes h d means =
    let l = c.args.passed.now.later in
    let t = g.Src.Source.whole c.args.source in
    let laws = g.met.L.Positional in
    let is : g.L.Positional.ended l ≡ true = search rules in
    let end = laws.at_end l is h d means (filter_map f t.items) in (
      subst (λ ys. Leads g.W.Visits.takes c.args.passed.now.to ys c.args.passed.now.to) (sym end.0) refl,
      ap (λ is. ended_unless is t.ending) end.1,
    )

pub returns-clause-passed : goal.returns-clause-passed
returns-clause-passed g c f makes h d means =
    let t = g.Src.Source.whole c.args.source in
    let l = c.args.passed.now.later in
    let laws = g.met.L.Positional in
    let more : g.L.Positional.ended l ≡ false = search rules in
    rw c.told_over.ensures
    (passed-ran g.W.Visits.takes g.W.Visits.refuses g.L.Positional.turns g.L.Positional.ended g.L.Positional.means
    (λ s. laws.goes_on s (c.requires.then_gives_one s)) laws.at_end laws.of_none ⊥ 1 None (filter_map f t.items) t.ending c.args.passed.now
    c.call_alone-outcome.new.by h d more means c.call_alone-outcome.result
    (c.call_alone-outcome.ensures.calls f makes))

pub returns-clause-touched : goal.returns-clause-touched
returns-clause-touched g c =
    let t = g.Src.Source.whole c.args.source in
    let some = g.met.S.Steps.makes_some c.args.steps c.requires.gives in
    let ran = c.call_alone-outcome.ensures.calls (λ x. (some x).0) (λ x. (some x).1) in
    carried-touches g.W.Visits.takes g.W.Visits.refuses g.L.Positional.turns g.L.Positional.ended c.args.passed.now c.call_alone-outcome.new.by
    (ran-touches _ _ ⊥ 1 None (filter_map (λ x. (some x).0) t.items) t.ending c.args.passed.now c.call_alone-outcome.result c.call_alone-outcome.new.by ran)

pub returns-then-has_ended-clause-touched : goal.returns-then-has_ended-clause-touched
returns-then-has_ended-clause-touched g c = ([], refl)
