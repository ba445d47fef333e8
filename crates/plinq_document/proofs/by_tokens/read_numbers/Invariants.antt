-- The numbers so far stand before those that the reader still has, and it gets shorter.
use Rattle.std.proofs.Common.{◌≡◌, ℕ, ◌≤◌, ◌++◌, length}
use Rattle.json.specs.Json.{items, value, parse_map}
use Rattle.serde_json.specs.Read.{converted}
use Rattle.plinq_document.specs.inner.Apart.{numbers_in}
use Rattle.plinq_document.proofs.by_tokens.read_numbers.Given as goal

abbrev pub invariant-numbers : goal.invariant-numbers
invariant-numbers l =
    (n : ℕ) × (length l.reader ≤ n)
    × (converted numbers_in (items (value 124) (length l.initial.reader) l.initial.reader)
    ≡ parse_map (λ rest. l.numbers.items ++ rest) (converted numbers_in (items (value 124) n l.reader)))
    × (length l.reader ≤ length l.initial.reader)

abbrev pub decreases-numbers : goal.decreases-numbers
decreases-numbers l = length l.reader
