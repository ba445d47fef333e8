-- The steps so far are called, and what is left is those from here on.
use Rattle.std.proofs.Common.{◌≡◌, drop}
use Rattle.serde_json.specs.View.{items_view}
use Rattle.plinq_document.specs.Steps.{with_steps_of}
use Rattle.plinq_document.proofs.steps.with_steps.Given as goal

abbrev pub invariant-loop-at : goal.invariant-loop-at
invariant-loop-at l = with_steps_of l.version 0 l.fn.query (items_view l.steps) ≡ with_steps_of l.version l.at l.query (items_view (drop l.at l.steps))
