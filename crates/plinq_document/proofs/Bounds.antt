-- Each source of a document that a concatenation may have has a bound.
use Rattle.std.proofs.Common.{◌≡◌, ◌≤◌, ℕ, ℤ, Bool, true, false, List, length, Option, Some, None, is_some, Result, Ok, Err, option_map, refl}
use Rattle.std.specs.Prelude.{if◌then◌else◌, option_and_then, ◌&&◌, codes}
use Rattle.std.specs.Str.{bytes_eq}
use Rattle.serde_json.specs.Data.{Data, Items, no_items, item, Members, no_members, member}
use Rattle.serde_json.specs.Find.{as_str, as_array, as_object}
use Rattle.plinq_source.specs.Trace.{Trace, ended_trace, list_ending}
use Rattle.plinq_document.specs.JsonValues.{whole_number, only_count, items_len}
use Rattle.plinq_document.specs.Results.{◌>>=◌, or_shape}
use Rattle.plinq_document.specs.Sources.{source_name, whole_numbers, few_numbers, list_source, text_source, range_trace, repeat_trace}
use Rattle.plinq_document.specs.Sources.{of_number_and_count, plain_source_named, code_of, plain_source_from, plain_source_of, count_after}
use Rattle.plinq_document.specs.Sources.{bound_named, bound_from, bound_of}
use Rattle.plinq_document.specs.declared.source_name.SourceName.{SourceName}
use Rattle.plinq_document.specs.declared.source_name.SourceName.TheVariants.{List as ListName, Text as TextName, Range as RangeName, Repeat as RepeatName}
use Rattle.plinq_document.specs.declared.doc_fault.DocFault.{DocFault}
use Rattle.plinq_document.specs.declared.doc_fault.DocFault.TheVariants.{Shape}
use Rattle.plinq_document.proofs.TwoSources.{few-plain}

some-list : (refusal : Option ℕ) (d : Data) (t : Trace ℤ) → list_source refusal d ≡ Ok t → is_some (option_map items_len (as_array d)) ≡ true
some-list refusal d t is = by (as_array d) is
  where
    by : (o : Option Items) → (or_shape (option_and_then whole_numbers o) >>= few_numbers >>= λ xs. Ok (ended_trace xs (list_ending refusal))) ≡ Ok t
        → is_some (option_map items_len o) ≡ true
    by None is = absurd (cc)
    by (Some ds) is = refl

some-text : (o : Option (List ℕ)) (t : Trace ℤ) → (or_shape o >>= text_source) ≡ Ok t → is_some (option_map length o) ≡ true
some-text None t is = absurd (cc)
some-text (Some text) t is = refl

some-counted : (f : ℤ → ℕ → Result (Trace ℤ) DocFault) (o : Option Items) (t : Trace ℤ) → (or_shape o >>= of_number_and_count f) ≡ Ok t
    → is_some (option_and_then count_after o) ≡ true
some-counted f None t is = absurd (cc)
some-counted f (Some no_items) t is = absurd (cc)
some-counted f (Some (item d ds)) t is = by (whole_number d) (only_count ds) is
  where
    by : (n : Option ℤ) (c : Option ℕ) → (or_shape n >>= λ x. or_shape c >>= λ count. f x count) ≡ Ok t → is_some c ≡ true
    by None c is = absurd (cc)
    by (Some x) None is = absurd (cc)
    by (Some x) (Some count) is = refl

some-named : (name : SourceName) (d : Data) (t : Trace ℤ) → plain_source_named d name ≡ Ok t → is_some (bound_named d name) ≡ true
some-named ListName d t is = some-list None d t is
some-named TextName d t is = some-text (as_str d) t is
some-named RangeName d t is = some-counted range_trace (as_array d) t is
some-named RepeatName d t is = some-counted repeat_trace (as_array d) t is

some-refusing : (b c : Bool) (code : Option ℕ) (other : Option SourceName) (d : Data) (t : Trace ℤ)
    → (if b && c then (or_shape code >>= λ n. list_source (Some n) d) else Err Shape) ≡ Ok t
    → is_some (option_and_then (bound_named d) (if b then Some ListName else other)) ≡ true
some-refusing true true (Some n) other d t is = some-list (Some n) d t is
some-refusing true true None other d t is = absurd (cc)
some-refusing true false code other d t is = absurd (cc)
some-refusing false c code other d t is = absurd (cc)

some-members : (o : Option Members) (t : Trace ℤ) → (or_shape o >>= plain_source_from) ≡ Ok t → is_some (option_and_then bound_from o) ≡ true
some-members None t is = absurd (cc)
some-members (Some no_members) t is = absurd (cc)
some-members (Some (member name d no_members)) t is = by (source_name name) is
  where
    by : (o : Option SourceName) → (or_shape o >>= plain_source_named d) ≡ Ok t → is_some (option_and_then (bound_named d) o) ≡ true
    by None is = absurd (cc)
    by (Some n) is = some-named n d t is
some-members (Some (member name d (member other e no_members))) t is =
    some-refusing (bytes_eq name (codes "list")) (bytes_eq other (codes "refuse")) (code_of e) _ d t is
some-members (Some (member name d (member other e (member third g rest)))) t is = absurd (cc)

-- and no more items than that
pub bound-plain : (d : Data) (t : Trace ℤ) → plain_source_of d ≡ Ok t → (m : ℕ) × ((bound_of d ≡ Some m) × (length t.items ≤ m))
bound-plain d t is = by (bound_of d) (some-members (as_object d) t is) (few-plain d t)
  where
    by : (o : Option ℕ) → is_some o ≡ true → ((m : ℕ) → plain_source_of d ≡ Ok t → o ≡ Some m → length t.items ≤ m)
        → (m : ℕ) × ((o ≡ Some m) × (length t.items ≤ m))
    by None some few = absurd (cc)
    by (Some m) some few = (m, (refl, few m is refl))
