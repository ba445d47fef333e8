-- A source of a document has no more items than its bound, and so two of few together have few.
use Rattle.std.proofs.Common.{◌≡◌, ◌≤◌, ℕ, ◌+◌, ◌^◌, ℤ, Bool, true, false, List, [], ◌∷◌, length, Option, Some, None, Result, Ok, Err, option_map}
use Rattle.std.proofs.Common.{refl, ap, ◌∙◌, arith}
use Rattle.std.proofs.lemmas.Bool.Decides.{nat_tests}
use Rattle.std.proofs.Math.ListN.{length-replicate}
use Rattle.std.specs.Prelude.{if◌then◌else◌, option_and_then, nat_le, ◌&&◌, replicate, codes}
use Rattle.std.specs.Str.{bytes_eq}
use Rattle.serde_json.specs.Data.{Data, Items, no_items, item, Members, no_members, member}
use Rattle.serde_json.specs.Find.{as_str, as_array, as_object}
use Rattle.plinq_source.specs.Trace.{Trace, ended_trace, list_ending}
use Rattle.plinq_source.specs.Text.{text_trace}
use Rattle.plinq_source.specs.inner.Values.{few-values}
use Rattle.plinq_source.specs.Range.{range_items, is_range}
use Rattle.plinq_source.specs.Repeat.{is_repeat}
use Rattle.plinq_source.specs.declared.ending.Ending.TheVariants.{End}
use Rattle.plinq_source.proofs.Walks.{length-range_items}
use Rattle.plinq_document.specs.JsonValues.{whole_number, only_count, items_len}
use Rattle.plinq_document.specs.Results.{◌>>=◌, or_shape}
use Rattle.plinq_document.specs.Sources.{source_name, whole_numbers, few_numbers, list_source, text_source, range_trace, repeat_trace}
use Rattle.plinq_document.specs.Sources.{of_number_and_count, plain_source_named, code_of, plain_source_from, plain_source_of, count_after}
use Rattle.plinq_document.specs.Sources.{bound_named, bound_from, bound_of, few_together}
use Rattle.plinq_document.specs.declared.source_name.SourceName.{SourceName}
use Rattle.plinq_document.specs.declared.source_name.SourceName.TheVariants.{List as ListName, Text as TextName, Range as RangeName, Repeat as RepeatName}
use Rattle.plinq_document.specs.declared.doc_fault.DocFault.{DocFault}
use Rattle.plinq_document.specs.declared.doc_fault.DocFault.TheVariants.{Shape, Source}

length-whole_numbers : (ds : Items) (ns : List ℤ) → whole_numbers ds ≡ Some ns → length ns ≡ items_len ds
length-whole_numbers no_items ns is = let e : ns ≡ [] = cc in ap length e
length-whole_numbers (item d ds) ns is = by (whole_number d) (whole_numbers ds) (items_len ds) (length-whole_numbers ds) ns is
  where
    by : (n : Option ℤ) (rest : Option (List ℤ)) (k : ℕ) → ((ms : List ℤ) → rest ≡ Some ms → length ms ≡ k)
        → (ns : List ℤ) → option_and_then (λ x. option_map (λ xs. x ∷ xs) rest) n ≡ Some ns → length ns ≡ k + 1
    by None rest k h ns is = absurd (cc)
    by (Some x) None k h ns is = absurd (cc)
    by (Some x) (Some ms) k h ns is = let e : ns ≡ x ∷ ms = cc in omega (arith, ap length e, h ms refl)

few-list : (refusal : Option ℕ) (d : Data) (t : Trace ℤ) (m : ℕ) → list_source refusal d ≡ Ok t → option_map items_len (as_array d) ≡ Some m
    → length t.items ≤ m
few-list refusal d t m is at = by (as_array d) is at
  where
    made : (b : Bool) (ns : List ℤ) → ((if b then Ok ns else Err Source) >>= λ xs. Ok (ended_trace xs (list_ending refusal))) ≡ Ok t
        → length t.items ≡ length ns
    made true ns is = let e : t ≡ ended_trace ns (list_ending refusal) = cc in ap (λ s. length s.items) e
    made false ns is = absurd (cc)

    of : (o : Option (List ℤ)) (k : ℕ) → ((ns : List ℤ) → o ≡ Some ns → length ns ≡ k)
        → (or_shape o >>= few_numbers >>= λ xs. Ok (ended_trace xs (list_ending refusal))) ≡ Ok t → length t.items ≡ k
    of None k h is = absurd (cc)
    of (Some ns) k h is = made (nat_le (length ns) (2 ^ 40)) ns is ∙ h ns refl

    by : (o : Option Items) → (or_shape (option_and_then whole_numbers o) >>= few_numbers >>= λ xs. Ok (ended_trace xs (list_ending refusal))) ≡ Ok t
        → option_map items_len o ≡ Some m → length t.items ≤ m
    by None is at = absurd (cc)
    by (Some ds) is at = let e : items_len ds ≡ m = cc in omega (arith, e, of (whole_numbers ds) (items_len ds) (length-whole_numbers ds) is)

few-text : (d : Data) (t : Trace ℤ) (m : ℕ) → (or_shape (as_str d) >>= text_source) ≡ Ok t → option_map length (as_str d) ≡ Some m → length t.items ≤ m
few-text d t m is at = by (as_str d) is at
  where
    made : (b : Bool) (text : List ℕ) → (if b then Ok (text_trace text) else Err Source) ≡ Ok t → length t.items ≤ length text
    made true text is = let e : t ≡ text_trace text = cc in omega (arith, ap (λ s. length s.items) e, few-values text)
    made false text is = absurd (cc)

    by : (o : Option (List ℕ)) → (or_shape o >>= text_source) ≡ Ok t → option_map length o ≡ Some m → length t.items ≤ m
    by None is at = absurd (cc)
    by (Some text) is at = let e : length text ≡ m = cc in omega (arith, e, made (nat_le (length text) (2 ^ 40)) text is)

few-range : (start : ℤ) (count : ℕ) (t : Trace ℤ) → range_trace start count ≡ Ok t → length t.items ≤ count
few-range start count t is = by (is_range start count) is
  where
    by : (b : Bool) → (if b then Ok (ended_trace (range_items start count) End) else Err Source) ≡ Ok t → length t.items ≤ count
    by true is = let e : t ≡ ended_trace (range_items start count) End = cc in omega (arith, ap (λ s. length s.items) e, length-range_items start count)
    by false is = absurd (cc)

few-repeat : (value : ℤ) (count : ℕ) (t : Trace ℤ) → repeat_trace value count ≡ Ok t → length t.items ≤ count
few-repeat value count t is = by (is_repeat count) is
  where
    by : (b : Bool) → (if b then Ok (ended_trace (replicate count value) End) else Err Source) ≡ Ok t → length t.items ≤ count
    by true is = let e : t ≡ ended_trace (replicate count value) End = cc in omega (arith, ap (λ s. length s.items) e, length-replicate count value)
    by false is = absurd (cc)

few-counted : (f : ℤ → ℕ → Result (Trace ℤ) DocFault) → ((n : ℤ) (count : ℕ) (t : Trace ℤ) → f n count ≡ Ok t → length t.items ≤ count)
    → (o : Option Items) (t : Trace ℤ) (m : ℕ) → (or_shape o >>= of_number_and_count f) ≡ Ok t → option_and_then count_after o ≡ Some m → length t.items ≤ m
few-counted f h None t m is at = absurd (cc)
few-counted f h (Some no_items) t m is at = absurd (cc)
few-counted f h (Some (item d ds)) t m is at = by (whole_number d) (only_count ds) is at
  where
    by : (n : Option ℤ) (c : Option ℕ) → (or_shape n >>= λ x. or_shape c >>= λ count. f x count) ≡ Ok t → c ≡ Some m → length t.items ≤ m
    by None c is at = absurd (cc)
    by (Some x) None is at = absurd (cc)
    by (Some x) (Some count) is at = let e : count ≡ m = cc in omega (arith, e, h x count t is)

few-named : (name : SourceName) (d : Data) (t : Trace ℤ) (m : ℕ) → plain_source_named d name ≡ Ok t → bound_named d name ≡ Some m → length t.items ≤ m
few-named ListName d t m is at = few-list None d t m is at
few-named TextName d t m is at = few-text d t m is at
few-named RangeName d t m is at = few-counted range_trace few-range (as_array d) t m is at
few-named RepeatName d t m is at = few-counted repeat_trace few-repeat (as_array d) t m is at

few-refusing : (b c : Bool) (code : Option ℕ) (other : Option SourceName) (d : Data) (t : Trace ℤ) (m : ℕ)
    → (if b && c then (or_shape code >>= λ n. list_source (Some n) d) else Err Shape) ≡ Ok t
    → option_and_then (bound_named d) (if b then Some ListName else other) ≡ Some m → length t.items ≤ m
few-refusing true true (Some n) other d t m is at = few-list (Some n) d t m is at
few-refusing true true None other d t m is at = absurd (cc)
few-refusing true false code other d t m is at = absurd (cc)
few-refusing false c code other d t m is at = absurd (cc)

few-members : (o : Option Members) (t : Trace ℤ) (m : ℕ) → (or_shape o >>= plain_source_from) ≡ Ok t → option_and_then bound_from o ≡ Some m
    → length t.items ≤ m
few-members None t m is at = absurd (cc)
few-members (Some no_members) t m is at = absurd (cc)
few-members (Some (member name d no_members)) t m is at = by (source_name name) is at
  where
    by : (o : Option SourceName) → (or_shape o >>= plain_source_named d) ≡ Ok t → option_and_then (bound_named d) o ≡ Some m → length t.items ≤ m
    by None is at = absurd (cc)
    by (Some n) is at = few-named n d t m is at
few-members (Some (member name d (member other e no_members))) t m is at =
    few-refusing (bytes_eq name (codes "list")) (bytes_eq other (codes "refuse")) (code_of e) _ d t m is at
few-members (Some (member name d (member other e (member third g rest)))) t m is at = absurd (cc)

pub few-plain : (d : Data) (t : Trace ℤ) (m : ℕ) → plain_source_of d ≡ Ok t → bound_of d ≡ Some m → length t.items ≤ m
few-plain d t m is at = few-members (as_object d) t m is at

-- sources of such bounds fit into one
pub few-both : (first second : Data) (a b : Trace ℤ) → plain_source_of first ≡ Ok a → plain_source_of second ≡ Ok b
    → few_together (bound_of first) (bound_of second) ≡ true → length a.items + length b.items ≤ 2 ^ 40
few-both first second a b is_first is_second few =
    by (bound_of first) (bound_of second) (λ m at. few-plain first a m is_first at) (λ n at. few-plain second b n is_second at) few
  where
    by : (o p : Option ℕ) → ((m : ℕ) → o ≡ Some m → length a.items ≤ m) → ((n : ℕ) → p ≡ Some n → length b.items ≤ n) → few_together o p ≡ true
        → length a.items + length b.items ≤ 2 ^ 40
    by None p f g few = absurd (cc)
    by (Some m) None f g few = absurd (cc)
    by (Some m) (Some n) f g few =
        let first_few = f m refl in
        let second_few = g n refl in
        grind (arith, nat_tests)
