use Rattle.std.proofs.Common.{◌≡◌, ◌∷◌, ◌++◌, [], ◌+◌, List, ℤ, drop, option_map, Some, ap, sym, ◌∙◌, rules}
use Rattle.serde_json.specs.View.{view, items_view}
use Rattle.plinq_document.specs.JsonValues.{whole_number}
use Rattle.plinq_document.specs.Sources.{whole_numbers}
use Rattle.plinq_document.proofs.Turns.{whole_numbers-turn}
use Rattle.plinq_document.proofs.plain_sources.whole_numbers.Goals as goal

pub loop-item-preserved : goal.loop-item-preserved
loop-item-preserved c =
    let number : whole_number (view c.item-item.result) ≡ Some c.in_ok-number.number = search rules in
    let turn =
    whole_numbers-turn c.loop-item.numbers.items c.in_ok-number.number c.loop-item.item-index c.args.items.now c.item-item.result c.loop-item-test.true
    c.item-item.is number in
    let pushed : c.push.new.self.items ≡ c.loop-item.numbers.items ++ c.in_ok-number.number ∷ [] = search rules in
    record {
      same = c.loop-item.invariant.same ∙ turn ∙ ap (λ (ns : List ℤ). option_map (λ rest. ns ++ rest)
          (whole_numbers (items_view (drop (c.loop-item.item-index + 1) c.args.items.now)))) (sym pushed);
      count = search rules;
      room = search rules;
    }
