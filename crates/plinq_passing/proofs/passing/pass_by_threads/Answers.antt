-- What is passed on is what the steps by position make of the list.
use Rattle.std.specs.Prelude.{[], true, false, ◌+◌}
use Rattle.std.specs.List.{filter_map}
use Rattle.std.proofs.Common.{rules, ◌≡◌, ◌∙◌, refl, ap, subst, arith}
use Rattle.std.specs.Coded.{Π_prop, ×_prop}
use Rattle.plinq_stopping.specs.Asking.{WasLetBy, WasStoppedBy}
use Rattle.plinq_passing.specs.inner.Limits.{limited}
use Rattle.plinq_passing.specs.Passing.{told_over}
use Rattle.plinq_passing.specs.Ran.{Ran, ended_unless, left_trace}
use Rattle.plinq_passing.proofs.Carrying.{passed-batches}
use Rattle.plinq_passing.proofs.Reaching.{asked-over, ran-none}
use Rattle.plinq_passing.proofs.Touching.{ran-touches, carried-touches}
use Rattle.plinq_passing.proofs.passing.pass_by_threads.Goals as goal

pub returns-then-has_ended-clause-passed : goal.returns-then-has_ended-clause-passed
returns-then-has_ended-clause-passed g c f makes h d means =
    let l = c.args.passed.now.later in
    let t = g.Src.Source.whole c.args.source in
    let laws = g.met.L.Positional in
    let is : g.L.Positional.ended l ≡ true = search rules in
    let end = laws.at_end l is h d means (filter_map f t.items) in
    ran-none g.W.Visits.takes g.W.Visits.refuses (WasStoppedBy g.C.Cancel.asks c.args.settings.token) c.args.settings.degree c.args.settings.growth _ _
    c.args.passed.now.to end.0 (ap (λ is. ended_unless is t.ending) end.1) c.ask_alone.result c.ask_alone.ensures.short

pub call_by_threads-outcome-requires-clause-may_call_in_one_way : goal.call_by_threads-outcome-requires-clause-may_call_in_one_way
call_by_threads-outcome-requires-clause-may_call_in_one_way g c κs within =
    let laws = g.met.L.Positional in
    ×_prop (Π_prop λ l. laws.one_call l (c.requires.then_in_one_way l)) c.requires.may_call_in_one_way

pub returns-clause-passed : goal.returns-clause-passed
returns-clause-passed g c f makes h d means =
    let t = g.Src.Source.whole c.args.source in
    let left = c.limit_of-left.result in
    let u = limited (g.Src.Source.given c.args.source + left) t in
    let l = c.args.passed.now.later in
    let laws = g.met.L.Positional in
    let more : g.L.Positional.ended l ≡ false = search rules in
    let stops = WasStoppedBy g.C.Cancel.asks c.args.settings.token in
    let outcome = c.call_by_threads-outcome in
    let all : g.Src.Source.given c.args.source + left ≡ left = omega (arith, c.requires.fresh) in
    let few = (g.met.Src.Source g.world.𝓛 g.world.𝓜 g.world.𝓡 ((λ s x. x), (λ x. x), (λ x. x), λ x. x)).few in
    let same = ap (λ n. left_trace f h d (limited n t)) all ∙ c.limit_of-left.ensures f makes h d means t (few c.args.source) in
    rw c.told_over.ensures
    (subst (λ v. Ran g.W.Visits.takes g.W.Visits.refuses stops c.args.settings.degree c.args.settings.growth v.items v.ending c.args.passed.now.to
    (told_over outcome.result outcome.new.by.over) outcome.new.by.to) same
    (passed-batches g.W.Visits.takes g.W.Visits.refuses g.L.Positional.turns g.L.Positional.ended g.L.Positional.means
    (λ s. laws.goes_on s (c.requires.then_gives_one s)) laws.at_end laws.of_none stops c.args.settings.degree
    c.args.settings.growth (filter_map f u.items) u.ending
    c.args.passed.now outcome.new.by h d more means outcome.result (outcome.ensures.calls f makes)))

pub returns-clause-touched : goal.returns-clause-touched
returns-clause-touched g c =
    let u = limited (g.Src.Source.given c.args.source + c.limit_of-left.result) (g.Src.Source.whole c.args.source) in
    let some = (g.met.S.Steps g.world.𝓛 g.world.𝓜 g.world.𝓡 ((λ s x. x), (λ x. x), (λ x. x), λ x. x)).makes_some c.args.steps c.requires.gives in
    let ran = c.call_by_threads-outcome.ensures.calls (λ x. (some x).0) (λ x. (some x).1) in
    carried-touches g.W.Visits.takes g.W.Visits.refuses g.L.Positional.turns g.L.Positional.ended c.args.passed.now c.call_by_threads-outcome.new.by
    (ran-touches _ _ (WasStoppedBy g.C.Cancel.asks c.args.settings.token) c.args.settings.degree c.args.settings.growth _ u.ending c.args.passed.now
    c.call_by_threads-outcome.result
    c.call_by_threads-outcome.new.by ran)

pub returns-then-has_ended-clause-touched : goal.returns-then-has_ended-clause-touched
returns-then-has_ended-clause-touched g c = ([], refl)

pub returns-clause-asked : goal.returns-clause-asked
returns-clause-asked g c =
    rw c.told_over.ensures
    (asked-over (WasLetBy g.C.Cancel.asks c.args.settings.token) c.call_by_threads-outcome.new.by.over c.call_by_threads-outcome.result
    c.call_by_threads-outcome.ensures.asked)
