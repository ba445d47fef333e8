-- The values of a document.
use Rattle.std.specs.Prelude.{ℕ, ◌+◌, ℤ, List, Option, Some, None, option_and_then}
use Rattle.serde_json.specs.Data.{Data, Items, no_items, item}
use Rattle.serde_json.specs.Find.{as_str, as_number, as_i64, as_u64}

-- a whole number
abbrev pub whole_number : Data → Option ℤ
whole_number d = option_and_then as_i64 (as_number d)

-- a count
abbrev pub count_of : Data → Option ℕ
count_of d = option_and_then as_u64 (as_number d)

-- how many items there are
abbrev pub items_len : Items → ℕ
items_len no_items = 0
items_len (item d ds) = items_len ds + 1

-- the only item
abbrev pub only_item : Items → Option Data
only_item no_items = None
only_item (item d no_items) = Some d
only_item (item d (item e rest)) = None

-- the only item, a whole number
abbrev pub only_whole_number : Items → Option ℤ
only_whole_number ds = option_and_then whole_number (only_item ds)

-- the only item, a count
abbrev pub only_count : Items → Option ℕ
only_count ds = option_and_then count_of (only_item ds)

-- the only item, a text
abbrev pub only_text : Items → Option (List ℕ)
only_text ds = option_and_then as_str (only_item ds)
