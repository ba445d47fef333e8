-- An item is left if one is equal.
use Rattle.std.specs.Prelude.{◌≡◌, Some, false, None}
use Rattle.std.specs.List.{filter_map}
use Rattle.std.proofs.Common.{refl}
use Rattle.plinq_steps.specs.Makes.{passed, makes-passed}
use Rattle.plinq_passing.proofs.OneByOne.{found-alone}
use Rattle.plinq_passing.proofs.Searching.{found-left}
use Rattle.plinq_query.proofs.Leaving.{follows-by, left-passed}
use Rattle.plinq_query.proofs.merged_searches_alone.Merged+Src+S+OneThread+L.contains.Goals as goal

pub returns-clause-value : goal.returns-clause-value
returns-clause-value g c f makes h d means =
    let q = c.args.self.query in
    let t = g.Src.Source.whole q.source in
    let p : g.row.L-To.Denot → _ = λ y. g.L.To.PartialEq.eq y c.args.item in
    rw c.told_found.ensures
    (found-left ⊥ 1 None t _ (d (filter_map f t.items) ≡ false) _ _ (left-passed p (h (filter_map f t.items))) c.first.result
    (c.first.ensures.value f makes (λ xs. filter_map (λ y. passed p (Some y)) (h xs)) d
    (follows-by h d means _ (λ y. passed p (Some y)) (λ y. makes-passed (λ o. o ≡ Some y) _ p (λ z. refl) (Some y) refl))))

pub returns-clause-alone : goal.returns-clause-alone
returns-clause-alone g c = rw c.told_found.ensures (found-alone c.first.result c.first.ensures.alone)
