-- A list's bound is the number of its items.
use Rattle.std.proofs.Common.{◌≡◌, length, Some, option_map, rules, ap, sym, ◌∙◌}
use Rattle.serde_json.specs.View.{view, items_view}
use Rattle.serde_json.specs.Find.{as_array}
use Rattle.plinq_document.specs.JsonValues.{items_len}
use Rattle.plinq_document.specs.Sources.{bound_named}
use Rattle.plinq_document.proofs.DocumentText.{items_len-items_view}
use Rattle.plinq_document.proofs.concats.bound_named.Goals as goal

pub returns-in_ok-as_array-in-List : goal.returns-in_ok-as_array-in-List
returns-in_ok-as_array-in-List c =
    let items = c.in_ok-as_array-in-List.field-0.now.items in
    let array : as_array (view c.args.what.now) ≡ Some (items_view items) = search rules in
    let len : c.len.result ≡ length items = search rules in
    ap Some (len ∙ sym (items_len-items_view items)) ∙ sym (ap (bound_named (view c.args.what.now)) c.in-List.is ∙ ap (option_map items_len) array)
