-- The source of a document.
use Rattle.std.specs.Prelude.{ℕ, ◌+◌, ◌^◌, ℤ, Bool, false, ◌&&◌, List, [], ◌∷◌, length, Option, Some, None, option_map, option_and_then, nat_le, nat_lt}
use Rattle.std.specs.Prelude.{if◌then◌else◌, replicate, Result, Ok, Err, codes, ⊤}
use Rattle.std.specs.Str.{bytes_eq}
use Rattle.serde_json.specs.Data.{Data, Items, no_items, item, Members, no_members, member}
use Rattle.serde_json.specs.Find.{as_str, as_array, as_object, get}
use Rattle.plinq_source.specs.Trace.{Trace, ended_trace, list_ending}
use Rattle.plinq_source.specs.Text.{text_trace}
use Rattle.plinq_source.specs.Range.{range_items, is_range}
use Rattle.plinq_source.specs.Repeat.{is_repeat}
use Rattle.plinq_source.specs.Concat.{concat}
use Rattle.plinq_source.specs.declared.ending.Ending.TheVariants.{End}
use Rattle.plinq_words.specs.Tables.{beside}
use Rattle.plinq_document.specs.JsonValues.{whole_number, count_of, items_len, only_count}
use Rattle.plinq_document.specs.Results.{◌>>=◌, ◌>>◌, or_shape}
use Rattle.plinq_document.specs.declared.version.Version.{Version}
use Rattle.plinq_document.specs.declared.version.Version.TheVariants.{One, Two}
use Rattle.plinq_document.specs.declared.source_name.SourceName.{SourceName}
use Rattle.plinq_document.specs.declared.source_name.SourceName.TheVariants.{List as ListName, Text as TextName, Range as RangeName, Repeat as RepeatName}
use Rattle.plinq_document.specs.declared.doc_fault.DocFault.{DocFault}
use Rattle.plinq_document.specs.declared.doc_fault.DocFault.TheVariants.{Shape, Source}

-- the kind of source of this name
abbrev pub source_name : List ℕ → Option SourceName
source_name = beside ((codes "list", ListName) ∷ (codes "text", TextName) ∷ (codes "range", RangeName) ∷ (codes "repeat", RepeatName) ∷ [])

-- the items, all of them whole numbers
abbrev pub whole_numbers : Items → Option (List ℤ)
whole_numbers no_items = Some []
whole_numbers (item d ds) = option_and_then (λ n. option_map (λ ns. n ∷ ns) (whole_numbers ds)) (whole_number d)

-- the code of a refusal, a count below 2^32
abbrev pub code_of : Data → Option ℕ
code_of d = option_and_then (λ n. if nat_lt n (2 ^ 32) then Some n else None) (count_of d)

-- the numbers of a list that may be a source
abbrev pub few_numbers : List ℤ → Result (List ℤ) DocFault
few_numbers ns = if nat_le (length ns) (2 ^ 40) then Ok ns else Err Source

-- the numbers of a list, or that one is no whole number of 64 bits
abbrev pub list_numbers : Data → Result (List ℤ) DocFault
list_numbers d = or_shape (option_and_then whole_numbers (as_array d)) >>= few_numbers

-- a list of whole numbers, and how it ends
abbrev pub list_source : Option ℕ → Data → Result (Trace ℤ) DocFault
list_source refusal d = do
  ns ← list_numbers d
  Ok (ended_trace ns (list_ending refusal))

-- the numbers of a text
abbrev pub text_source : List ℕ → Result (Trace ℤ) DocFault
text_source text = if nat_le (length text) (2 ^ 40) then Ok (text_trace text) else Err Source

-- the whole numbers from a start on, so many
abbrev pub range_trace : ℤ → ℕ → Result (Trace ℤ) DocFault
range_trace start count = if is_range start count then Ok (ended_trace (range_items start count) End) else Err Source

-- one whole number, so many times
abbrev pub repeat_trace : ℤ → ℕ → Result (Trace ℤ) DocFault
repeat_trace value count = if is_repeat count then Ok (ended_trace (replicate count value) End) else Err Source

-- what is made of an item that is a whole number and one after it that is a count
abbrev pub of_number_and_count : (ℤ → ℕ → Result (Trace ℤ) DocFault) → Items → Result (Trace ℤ) DocFault
of_number_and_count f no_items = Err Shape
of_number_and_count f (item d ds) = do
  n ← or_shape (whole_number d)
  count ← or_shape (only_count ds)
  f n count

-- the source of this kind that the value describes
abbrev pub plain_source_named : Data → SourceName → Result (Trace ℤ) DocFault
plain_source_named d ListName = list_source None d
plain_source_named d TextName = or_shape (as_str d) >>= text_source
plain_source_named d RangeName = or_shape (as_array d) >>= of_number_and_count range_trace
plain_source_named d RepeatName = or_shape (as_array d) >>= of_number_and_count repeat_trace

-- the members "list" and "refuse"
abbrev pub refusing_list : List ℕ → Data → List ℕ → Data → Result (Trace ℤ) DocFault
refusing_list first d second e =
    if bytes_eq first (codes "list") && bytes_eq second (codes "refuse") then (or_shape (code_of e) >>= λ code. list_source (Some code) d) else Err Shape

-- the source of an object that is one of the five: of its only member, or of the members "list" and "refuse"
abbrev pub plain_source_from : Members → Result (Trace ℤ) DocFault
plain_source_from no_members = Err Shape
plain_source_from (member name d no_members) = or_shape (source_name name) >>= plain_source_named d
plain_source_from (member name d (member other e no_members)) = refusing_list name d other e
plain_source_from (member name d (member other e (member third g rest))) = Err Shape

-- the source that a value describes, of those that every version has
abbrev pub plain_source_of : Data → Result (Trace ℤ) DocFault
plain_source_of d = or_shape (as_object d) >>= plain_source_from

-- the count that stands after the first item
abbrev pub count_after : Items → Option ℕ
count_after no_items = None
count_after (item d ds) = only_count ds

-- the most items of a source of this kind: a list's length, a text's number of bytes, a range's and a repeat's count
abbrev pub bound_named : Data → SourceName → Option ℕ
bound_named d ListName = option_map items_len (as_array d)
bound_named d TextName = option_map length (as_str d)
bound_named d RangeName = option_and_then count_after (as_array d)
bound_named d RepeatName = option_and_then count_after (as_array d)

-- the most items of a source that is one of the five; the member "list" comes before "refuse"
abbrev pub bound_from : Members → Option ℕ
bound_from no_members = None
bound_from (member name d ms) = option_and_then (bound_named d) (source_name name)

-- how many items a source's object allows for
abbrev pub bound_of : Data → Option ℕ
bound_of d = option_and_then bound_from (as_object d)

-- sources of these bounds have few items together
abbrev pub few_together : Option ℕ → Option ℕ → Bool
few_together (Some m) (Some n) = nat_le (m + n) (2 ^ 40)
few_together (Some m) None = false
few_together None n = false

-- the shape alone: that of a source that is too large is right
abbrev pub shape_of : {T : Type 0} → Result T DocFault → Result ⊤ DocFault
shape_of (Ok x) = Ok tt
shape_of (Err Source) = Ok tt
shape_of (Err e) = Err e

-- one source after the other: first the shapes of both, then the size of each, and then that of both
abbrev pub both_sources : Bool → Result (Trace ℤ) DocFault → Result (Trace ℤ) DocFault → Result (Trace ℤ) DocFault
both_sources few first second = do
  shape_of first
  shape_of second
  a ← first
  b ← second
  if few then Ok (concat a b) else Err Source

-- the source of two objects, one after the other
abbrev pub concat_of : Data → Data → Result (Trace ℤ) DocFault
concat_of first second = both_sources (few_together (bound_of first) (bound_of second)) (plain_source_of first) (plain_source_of second)

-- the only two items
abbrev pub two_items : Items → Option (Data × Data)
two_items no_items = None
two_items (item d no_items) = None
two_items (item d (item e no_items)) = Some (d, e)
two_items (item d (item e (item f rest))) = None

-- the only member, where it has the name "concat"
abbrev pub concat_member : Members → Option Data
concat_member no_members = None
concat_member (member name d no_members) = if bytes_eq name (codes "concat") then Some d else None
concat_member (member name d (member other e rest)) = None

-- the two values of {"concat":[S,T]}, where a value is that
abbrev pub concat_pair : Data → Option (Data × Data)
concat_pair d = option_and_then two_items (option_and_then as_array (option_and_then concat_member (as_object d)))

-- a concatenation of two values; where there are none, one of the five
abbrev pub concat_or_plain : Data → Option (Data × Data) → Result (Trace ℤ) DocFault
concat_or_plain d None = plain_source_of d
concat_or_plain d (Some pair) = concat_of pair.0 pair.1

-- the source that a value describes in this version
abbrev pub source_of : Version → Data → Result (Trace ℤ) DocFault
source_of One d = plain_source_of d
source_of Two d = concat_or_plain d (concat_pair d)

-- the source of a document of this version, under the name "source"
abbrev pub source_in : Version → Data → Result (Trace ℤ) DocFault
source_in version d = or_shape (get (codes "source") d) >>= source_of version
