use Rattle.std.proofs.Common.{rules, ◌≡◌, length, sym, subst}
use Rattle.std.specs.Prelude.{IsSortedByKey}
use Rattle.std.specs.List.Sorted.{IsStableByKey}
use Rattle.std.proofs.lemmas.Fn.{always_returns_same}
use Rattle.plinq_sorted.specs.Orders.{IsOrderOf}
use Rattle.plinq_sorted.proofs.Slices.{lent-whole}
use Rattle.plinq_sorted.proofs.ordering.ordered.Goals as goal

pub returns : goal.returns
returns g c =
    let ranks = g.O.RankOf.ranks c.args.rank.now in
    let cmp = g.O.Rank.Ord.cmp in
    let s = c.par_sort_by_key.new.s in
    let xs = c.args.items.items in
    let many : c.args.items.len ≡ length xs = search rules in
    let same : length s ≡ length xs = search rules in
    let lent : c.as_mut_slice.result.now ≡ xs = search rules in
    let ascends : IsSortedByKey ranks cmp s =
    c.in_ok-par_sort_by_key.ensures.sorted ranks (always_returns_same _ (λ a r. r ≡ ranks a.0.now) _ (λ a r f k. (search rules, search rules))) in
    let stable : IsStableByKey ranks cmp xs s =
    subst (λ l. IsStableByKey ranks cmp l s) lent
    (c.in_ok-par_sort_by_key.ensures.stable ranks (always_returns_same _ (λ a r. r ≡ ranks a.0.now) _ (λ a r f k. (search rules, search rules)))) in
    subst (λ l. IsOrderOf ranks cmp xs l) (sym (lent-whole c.args.items.len s xs many same)) (record { ascends = ascends; stable = stable })
