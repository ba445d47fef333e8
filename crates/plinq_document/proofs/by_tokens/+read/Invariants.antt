-- The items so far stand before what the reader still has, which gets shorter.
use Rattle.std.proofs.Common.{◌≡◌, ℕ, ◌+◌, ◌*◌, ◌≤◌, length}
use Rattle.json.specs.Json.{items, value, parse_map}
use Rattle.serde_json.specs.Read.{of_items, converted}
use Rattle.plinq_document.proofs.TokenTurns.{items_before}
use Rattle.plinq_document.proofs.by_tokens.+read.Given as goal

abbrev pub decreases-read_value : goal.decreases-read_value
decreases-read_value l = 2 * l.depth

abbrev pub decreases-read_items : goal.decreases-read_items
decreases-read_items l = 2 * l.depth + 1

abbrev pub invariant-read_items-items : goal.invariant-read_items-items
invariant-read_items-items l =
    (n : ℕ) × (length l.reader ≤ n)
    × (converted of_items (items (value l.depth) (length l.initial.reader) l.initial.reader)
    ≡ parse_map (items_before l.found.items) (converted of_items (items (value l.depth) n l.reader)))
    × (length l.reader ≤ length l.initial.reader)

abbrev pub decreases-read_items-items : goal.decreases-read_items-items
decreases-read_items-items l = length l.reader
