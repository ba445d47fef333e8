-- The names so far are known, and what is left decides.
use Rattle.std.proofs.Common.{◌≡◌}
use Rattle.serde_json.specs.View.{members_view}
use Rattle.plinq_document.specs.Document.{are_top_names}
use Rattle.plinq_document.proofs.document.are_top_names.Given as goal

abbrev pub invariant-loop-name : goal.invariant-loop-name
invariant-loop-name l = are_top_names (members_view l.members.entries) ≡ are_top_names (members_view l.name-iterator)
