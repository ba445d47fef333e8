use Rattle.std.proofs.Common.{rules, ◌≡◌, ◌++◌, ◌+◌, [], ◌∷◌, ◌∙◌, sym, ap, take, unwrap_or}
use Rattle.std.proofs.lemmas.List.{take_more}
use Rattle.indexmap.specs.IndexMap.{set_value_at}
use Rattle.plinq_groups.proofs.Placed.{takes-item, takes-next}
use Rattle.plinq_groups.proofs.group_by.GroupByGrowingAggregator.update_block.Goals as goal

pub loop-item-preserved : goal.loop-item-preserved
loop-item-preserved g c =
    let eq = g.F.Key.PartialEq.eq in
    let keys = g.F.KeyOf.keys c.args.self.now.key in
    let f = g.A.GrowingAggregator.folding c.args.self.now.each in
    let index = c.in_ok-index.index in
    let value = c.in_ok-map.field-0 in
    let i = c.loop-item.item-index in
    let block = c.args.block.now in
    let x = c.item-item.result in
    let more : take (i + 1) block ≡ take i block ++ x ∷ [] =
    take_more block i x c.loop-item-test.true ∙ ap (λ y. take i block ++ y ∷ []) (sym c.item-item.is) in
    let begun : c.unwrap_or-before.result ≡ unwrap_or c.in_ok-index.before f.seed = search rules in
    let becomes = ap (λ l. set_value_at l index value) c.in_ok-index.ensures.entries in
    let es = c.loop-item.map.entries in
    let es' = set_value_at c.insert_full.new.self.entries index value in
    takes-next eq keys f c.args.acc es es' block i x more c.loop-item.invariant
    (takes-item eq keys f es es' x c.key_of.result c.seed-filler.result index c.in_ok-index.before value c.key_of.ensures c.in_ok-index.ensures.index
    c.in_ok-index.ensures.old
    (c.in_ok-map.ensures ∙ ap (λ b. f.update b x) begun) becomes)
