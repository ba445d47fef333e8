-- The members so far are apart from the source, and what the reader still has is put beside them.
use Rattle.std.proofs.Common.{◌≡◌, ℕ, ◌≤◌, length}
use Rattle.json.specs.Json.{members, value}
use Rattle.serde_json.specs.Data.{Members, no_members}
use Rattle.serde_json.specs.Read.{of_members, converted}
use Rattle.serde_json.specs.View.{members_view}
use Rattle.plinq_document.specs.inner.Apart.{AreApart, IsFresh}
use Rattle.plinq_document.proofs.by_tokens.read_members.Given as goal

abbrev pub invariant-members : goal.invariant-members
invariant-members l =
    (n : ℕ) × (ms : Members) × (length l.reader ≤ n)
    × (converted (λ js. of_members js no_members) (members (value 126) (length l.initial.reader) l.initial.reader)
    ≡ converted (λ js. of_members js ms) (members (value 126) n l.reader))
    × AreApart l.parts.source (members_view l.parts.others.entries) ms
    × IsFresh l.parts.source

abbrev pub decreases-members : goal.decreases-members
decreases-members l = length l.reader
