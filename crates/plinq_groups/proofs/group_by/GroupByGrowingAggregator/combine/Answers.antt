use Rattle.std.proofs.Common.{◌≡◌, ◌∷◌, ◌∙◌, sym, ap}
use Rattle.std.specs.List.{fold}
use Rattle.indexmap.specs.IndexMap.{set_value_at}
use Rattle.plinq_groups.specs.Groups.{with_group}
use Rattle.plinq_groups.proofs.Placed.{changed, takes-group, goes-on}
use Rattle.plinq_groups.proofs.group_by.GroupByGrowingAggregator.combine.Goals as goal
use Rattle.plinq_groups.proofs.group_by.GroupByGrowingAggregator.combine.Goals.{in-Some-before+in_ok-combine-in-Some-before, in-None-before}

pub loop-key-preserved : goal.loop-key-preserved
loop-key-preserved g c =
    let eq = g.F.Key.PartialEq.eq in
    let keys = g.F.KeyOf.keys c.args.self.now.key in
    let f = g.A.GrowingAggregator.folding c.args.self.now.each in
    let k = c.in-Some.key in
    let a = c.in-Some.acc in
    let index = c.in_ok-index.index in
    let value = c.match-before.drop in
    let filler = c.seed-filler.result in
    let first : c.loop-key.key-iterator ≡ (k, a) ∷ c.next.new.self = c.in-Some.ensures.steps in
    let is : value ≡ changed eq k filler a (λ b. f.combine b a) c.in_ok-index.before = elim c.match-before.branch [
      | in-Some-before+in_ok-combine-in-Some-before w ↦ w.drop-is ∙ w.in_ok-combine-in-Some-before.ensures
          ∙ sym (ap (changed eq k filler a (λ b. f.combine b a)) w.in-Some-before.is)
      | in-None-before w ↦ w.drop-is ∙ sym (ap (changed eq k filler a (λ b. f.combine b a)) w.in-None-before.is)
    ] in
    let becomes = ap (λ l. set_value_at l index value) c.in_ok-index.ensures.entries in
    let es = c.loop-key.map.entries in
    let es' = set_value_at c.insert_full.new.self.entries index value in
    goes-on eq keys f es es' c.loop-key.key-iterator c.next.new.self (fold (with_group eq keys f) c.args.first c.args.second) (k, a) first c.loop-key.invariant
    (takes-group eq keys f es es' k a filler index c.in_ok-index.before value c.in_ok-index.ensures.index c.in_ok-index.ensures.old is becomes)
