use Rattle.std.proofs.Common.{◌≡◌, ◌<◌, ◌≤◌, length, Some, Ok, rules, arith, ap, sym, ◌∙◌}
use Rattle.std.specs.Prelude.{option_and_then, codes}
use Rattle.serde_json.specs.Find.{as_array, get}
use Rattle.serde_json.specs.View.{view, items_view}
use Rattle.plinq_document.specs.Results.{◌>>=◌, or_shape}
use Rattle.plinq_document.specs.Document.{few_steps}
use Rattle.plinq_document.proofs.DocumentText.{few_steps-few, few_steps-many}
use Rattle.plinq_document.proofs.document.steps_in.Goals as goal

pub returns-then-len-gt-MOST_STEPS : goal.returns-then-len-gt-MOST_STEPS
returns-then-len-gt-MOST_STEPS c =
    let steps = c.in_ok-steps-2.steps.now in
    let found : option_and_then as_array (get (codes "query") (view c.args.value.now)) ≡ Some (items_view steps.items) = search rules in
    let many : 1000 < length steps.items = omega (arith, steps.ok.0) in
    ap (λ o. or_shape o >>= few_steps) found ∙ few_steps-many steps.items many

pub returns : goal.returns
returns c =
    let steps = c.in_ok-steps-2.steps.now in
    let found : option_and_then as_array (get (codes "query") (view c.args.value.now)) ≡ Some (items_view steps.items) = search rules in
    let few : length steps.items ≤ 1000 = omega (arith, steps.ok.0) in
    ap (λ o. or_shape o >>= few_steps) found ∙ few_steps-few steps.items few ∙ ap (λ vs. Ok (items_view vs)) (sym c.deref.ensures.value)
