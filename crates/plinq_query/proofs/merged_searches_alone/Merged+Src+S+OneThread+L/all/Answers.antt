-- Some answer is false unless every item passes.
use Rattle.std.specs.Prelude.{◌≡◌, Some, false, None}
use Rattle.std.specs.List.{filter_map}
use Rattle.std.proofs.Common.{refl}
use Rattle.plinq_steps.specs.Makes.{selected, makes-selected}
use Rattle.plinq_passing.proofs.OneByOne.{not-alone}
use Rattle.plinq_passing.proofs.Searching.{not-left}
use Rattle.plinq_query.proofs.Leaving.{follows-by, left-false}
use Rattle.plinq_query.proofs.merged_searches_alone.Merged+Src+S+OneThread+L.all.Goals as goal

pub returns-clause-value : goal.returns-clause-value
returns-clause-value g c f makes h d means p gives =
    let q = c.args.self.query in
    let t = g.Src.Source.whole q.source in
    let w = c.select.ensures in
    rw c.told_not.ensures
    (not-left ⊥ 1 None t _ (d (filter_map f t.items) ≡ false) _ _ (left-false p (h (filter_map f t.items))) c.contains.result
    (rw w.0 at (c.contains.ensures.value f (λ x. rw w.0 (makes x)) (λ xs. filter_map (λ y. selected p (Some y)) (h xs)) d
    (rw (w.1, w.2) (follows-by h d means _ (λ y. selected p (Some y)) (λ y. makes-selected (λ o. o ≡ Some y) _ p gives (Some y) refl))))))

pub returns-clause-alone : goal.returns-clause-alone
returns-clause-alone g c = rw c.told_not.ensures (not-alone c.contains.result c.contains.ensures.alone)
