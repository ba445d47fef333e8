-- Some answer is false unless every item passes.
use Rattle.std.specs.Prelude.{◌≡◌, Some, false}
use Rattle.std.specs.List.{filter_map}
use Rattle.std.proofs.Common.{refl}
use Rattle.plinq_steps.specs.Makes.{selected, makes-selected}
use Rattle.plinq_stopping.specs.Asking.{WasStoppedBy}
use Rattle.plinq_passing.proofs.Searching.{not-left}
use Rattle.plinq_query.proofs.Leaving.{follows-by, left-false}
use Rattle.plinq_query.proofs.merged_searches.Merged+Src+S+ByThreads+C+L.all.Goals as goal

pub returns-clause-value : goal.returns-clause-value
returns-clause-value g c f makes h d means p gives =
    let q = c.args.self.query in
    let t = g.Src.Source.whole q.source in
    let w = c.select.ensures in
    rw c.told_not.ensures
    (not-left (WasStoppedBy g.C.Cancel.asks q.by.token) q.by.degree q.by.growth t _ (d (filter_map f t.items) ≡ false) _ _ (left-false p (h
    (filter_map f t.items))) c.contains.result
    (rw w.0 at (c.contains.ensures.value f (λ x. rw w.0 (makes x)) (λ xs. filter_map (λ y. selected p (Some y)) (h xs)) d
    (rw (w.1, w.2) (follows-by h d means _ (λ y. selected p (Some y)) (λ y. makes-selected (λ o. o ≡ Some y) _ p gives (Some y) refl))))))

pub contains-requires-clause-then_in_one_way : goal.contains-requires-clause-then_in_one_way
contains-requires-clause-then_in_one_way g c κs within =
    λ l. ((λ y. c.requires.may_call_in_one_way l.steps.by y, tt), c.requires.then_in_one_way l.before)
