-- A text that is counted, in a map of texts.
use Rattle.std.proofs.Common.{◌≡◌, ℕ, zero, suc, Bool, false, if◌then◌else◌, List, [], ◌∷◌, ◌++◌, map, Some, None, slice_get, Vec, Global}
use Rattle.std.proofs.Common.{◌+◌, ◌%◌, ◌<◌, length, take, append-nil, ap, sym, ◌∙◌}
use Rattle.std.proofs.lemmas.Grind.{flat_map-append}
use Rattle.std.proofs.lemmas.List.Sums.{fold-append}
use Rattle.std.proofs.lemmas.List.{take_more}
use Rattle.std.proofs.lemmas.Option.{get_or_from_slice_get, none-some, same_Some, slice_get_within, slice_get-get_or}
use Rattle.std.specs.List.{position}
use Rattle.std.specs.Str.{bytes_eq}
use Rattle.std.specs.Map.{keys_of, values_of}
use Rattle.std_collections.proofs.HashLookup.{IsAbsent, IsFirst}
use Rattle.indexmap.specs.IndexMap.{insert_entry, set_value_at}
use Rattle.indexmap.proofs.MapLemmas.{Found-position, Missing-position}
use Rattle.plinq_tally.specs.Tallies.{count_line, keyed, tally_text, total}

-- what a contract sees of a map's entries
abbrev pub shown : {V : Type 0} → List (Vec ℕ Global × V) → List (List ℕ × V)
shown es = map (λ e. (e.0.items, e.1)) es

-- whether a key is this text
abbrev pub is_text : List ℕ → Vec ℕ Global → Bool
is_text text k = bytes_eq text k.items

module _ {V : Type 0} (first : V) (more : V → V) (text : List ℕ) where
  first-keyed : (es : List (Vec ℕ Global × V)) (i : ℕ) (v : V) → IsFirst (is_text text) es i → slice_get (values_of es) i ≡ Some v
      → shown (set_value_at es i (more v)) ≡ keyed first more (shown es) text
  first-keyed [] i v h at = absurd h
  first-keyed (e ∷ es) zero v h at =
      ap (λ n. (e.0.items, more n) ∷ shown es) (sym (same_Some _ _ at))
      ∙ sym (ap (λ b. if b then (e.0.items, more e.1) ∷ shown es else (e.0.items, e.1) ∷ keyed first more (shown es) text) h)
  first-keyed (e ∷ es) (suc i) v h at =
      ap (λ l. (e.0.items, e.1) ∷ l) (first-keyed es i v h.1 at)
      ∙ sym (ap (λ b. if b then (e.0.items, more e.1) ∷ shown es else (e.0.items, e.1) ∷ keyed first more (shown es) text) h.0)

  -- a text that came before
  pub keyed-there : (es : List (Vec ℕ Global × V)) (i : ℕ) (v : V) → position (is_text text) (keys_of es) ≡ Some i → slice_get (values_of es) i ≡ Some v
      → shown (set_value_at es i (more v)) ≡ keyed first more (shown es) text
  keyed-there es i v is at = first-keyed es i v (Found-position (is_text text) es i is).first at

  absent-keyed : (es : List (Vec ℕ Global × V)) (k : Vec ℕ Global) → IsAbsent (is_text text) es → k.items ≡ text
      → shown (insert_entry (λ a b. bytes_eq a.items b.items) es k first) ≡ keyed first more (shown es) text
  absent-keyed [] k h is = ap (λ t. (t, first) ∷ []) is
  absent-keyed (e ∷ es) k h is =
      let other : bytes_eq k.items e.0.items ≡ false = ap (λ t. bytes_eq t e.0.items) is ∙ h.0 in
      ap (λ b. shown (if b then (e.0, first) ∷ es else e ∷ insert_entry (λ a b. bytes_eq a.items b.items) es k first)) other
      ∙ ap (λ l. (e.0.items, e.1) ∷ l) (absent-keyed es k h.1 is)
      ∙ sym (ap (λ b. if b then (e.0.items, more e.1) ∷ shown es else (e.0.items, e.1) ∷ keyed first more (shown es) text) h.0)

  -- a text that is new
  pub keyed-new : (es : List (Vec ℕ Global × V)) (k : Vec ℕ Global) → position (is_text text) (keys_of es) ≡ None → k.items ≡ text
      → shown (insert_entry (λ a b. bytes_eq a.items b.items) es k first) ≡ keyed first more (shown es) text
  keyed-new es k none is = absent-keyed es k (Missing-position (is_text text) es none).absent is

pub next-item : {A : Type 0} (gs : List A) (i : ℕ) (g : A) → slice_get gs i ≡ Some g → take (i + 1) gs ≡ take i gs ++ g ∷ []
next-item gs i g at =
    take_more gs i g (slice_get_within gs i g at) ∙ ap (λ h. take i gs ++ h ∷ []) (get_or_from_slice_get gs i g g at)

-- the line of one text more
pub text-more : (gs : List (List ℕ × ℕ)) (i : ℕ) (g : List ℕ × ℕ) → slice_get gs i ≡ Some g
    → tally_text (take (i + 1) gs) ≡ tally_text (take i gs) ++ count_line g
text-more gs i g at =
    ap tally_text (next-item gs i g at)
    ∙ flat_map-append count_line (take i gs) (g ∷ [])
    ∙ ap (λ b. tally_text (take i gs) ++ b) (append-nil (count_line g))

-- its count
pub total-more : (gs : List (List ℕ × ℕ)) (i : ℕ) (g : List ℕ × ℕ) → slice_get gs i ≡ Some g
    → total (take (i + 1) gs) ≡ (total (take i gs) + g.1) % 18446744073709551616
total-more gs i g at = ap total (next-item gs i g at) ∙ fold-append (λ n g. (n + g.1) % 18446744073709551616) 0 (take i gs) (g ∷ [])

-- there is one at each place before the last
pub is-there : {A B : Type 0} (gs : List A) (i : ℕ) (d : A) → i < length gs → slice_get gs i ≡ None → B
is-there gs i d within none = absurd (none-some _ (sym none ∙ slice_get-get_or gs i d within))
