use Rattle.std.proofs.Common.{rules, ◌≡◌, ◌∙◌, ap, unwrap_or}
use Rattle.indexmap.specs.IndexMap.{set_value_at}
use Rattle.plinq_groups.specs.Groups.{with_item}
use Rattle.plinq_groups.proofs.Placed.{takes-item}
use Rattle.plinq_groups.proofs.group_by.GroupByGrowingAggregator.update.Goals as goal

pub returns : goal.returns
returns g c =
    let eq = g.F.Key.PartialEq.eq in
    let keys = g.F.KeyOf.keys c.args.self.now.key in
    let f = g.A.GrowingAggregator.folding c.args.self.now.each in
    let index = c.in_ok-index.index in
    let value = c.in_ok-map.field-0 in
    let begun : c.unwrap_or-before.result ≡ unwrap_or c.in_ok-index.before f.seed = search rules in
    let becomes = ap (λ l. set_value_at l index value) c.in_ok-index.ensures.entries in
    takes-item eq keys f c.acc.inside.map.entries (set_value_at c.insert_full.new.self.entries index value) c.args.x c.key_of.result c.seed-filler.result
    index c.in_ok-index.before value
    c.key_of.ensures c.in_ok-index.ensures.index c.in_ok-index.ensures.old (c.in_ok-map.ensures ∙ ap (λ b. f.update b c.args.x) begun) becomes
    ∙ ap (λ es. with_item eq keys f es c.args.x) c.acc.view_is
