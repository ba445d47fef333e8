-- Fields have no byte that their text has not.
use Rattle.std.proofs.Common.{◌≡◌, ℕ, zero, suc, ◌+◌, ◌==◌, Bool, true, false, not, if◌then◌else◌, List, [], ◌∷◌, ◌++◌, take, drop, refl, ap, sym, ◌∙◌}
use Rattle.std.specs.Prelude.{⊤}
use Rattle.std.specs.List.{prefix_len}
use Rattle.std.proofs.Common.{Option, Some, None, length, arith, le_refl}
use Rattle.std.proofs.lemmas.List.Sums.{prefix_len_is}
use Rattle.memchr.specs.Find.{IsFirstByte, is_byte}
use Rattle.std.proofs.lemmas.Bool.{and_parts, and_from}
use Rattle.plinq_text.specs.declared.line_step.Fields.{Fields}
use Rattle.plinq_text.specs.declared.line_step.Separator.{Separator}
use Rattle.plinq_text.specs.declared.line_step.Separator.TheVariants.{Blanks, Byte}
use Rattle.plinq_text.specs.Fields.{is_blank, place_of, column, after_blanks, word, field_between, fields, fields_of, from_column}
use Rattle.plinq_text.specs.Fields.{from_field, from_word, further, glue, joined, rest}
use Rattle.plinq_text.specs.Lines.{is_text, line_feed}
use Rattle.plinq_text.specs.inner.FirstFields.{first_field}

is_text-take : (n : ℕ) (text : List ℕ) → is_text text ≡ true → is_text (take n text) ≡ true
is_text-take zero text is = refl
is_text-take (suc n) [] is = refl
is_text-take (suc n) (b ∷ rest) is = let parts = and_parts _ _ is in and_from _ _ parts.0 (is_text-take n rest parts.1)

is_text-drop : (n : ℕ) (text : List ℕ) → is_text text ≡ true → is_text (drop n text) ≡ true
is_text-drop zero text is = is
is_text-drop (suc n) [] is = refl
is_text-drop (suc n) (b ∷ rest) is = let parts = and_parts _ _ is in is_text-drop n rest parts.1

is_text-column : (byte n : ℕ) (text : List ℕ) → is_text text ≡ true → is_text (column byte n text) ≡ true
unfolding column
is_text-column byte zero text is = is_text-take (place_of (λ b. b == byte) text) text is
is_text-column byte (suc n) text is = is_text-column byte n _ (is_text-drop (place_of (λ b. b == byte) text + 1) text is)

is_text-word : (n : ℕ) (text : List ℕ) → is_text text ≡ true → is_text (word n text) ≡ true
unfolding word
is_text-word zero text is = is_text-take (place_of is_blank (after_blanks text)) (after_blanks text) (is_text-drop (prefix_len is_blank text) text is)
is_text-word (suc n) text is =
    is_text-word n _ (is_text-drop (place_of is_blank (after_blanks text)) (after_blanks text) (is_text-drop (prefix_len is_blank text) text is))

is_text-between : (s : Separator) (n : ℕ) (text : List ℕ) → is_text text ≡ true → is_text (field_between s n text) ≡ true
is_text-between Blanks n text is = is_text-word n text is
is_text-between (Byte byte) n text is = is_text-column byte n text is

is_text-append : (a b : List ℕ) → is_text a ≡ true → is_text b ≡ true → is_text (a ++ b) ≡ true
is_text-append [] b is others = others
is_text-append (x ∷ a) b is others = let parts = and_parts _ _ is in and_from _ _ parts.0 (is_text-append a b parts.1 others)

-- no line feed stands between fields
no-feed : (s : Separator) → not (glue s == line_feed) ≡ true
no-feed Blanks = refl
no-feed (Byte byte) = by (byte == 10) refl
  where
    by : (is : Bool) → (byte == 10) ≡ is → not ((if is then 32 else byte) == line_feed) ≡ true
    by true same = refl
    by false other = ap not other

-- none of these texts has a line feed
abbrev AreTexts : List (List ℕ) → Type 0
AreTexts [] = ⊤
AreTexts (t ∷ ts) = (is_text t ≡ true) × AreTexts ts

texts-append : (ts us : List (List ℕ)) → AreTexts ts → AreTexts us → AreTexts (ts ++ us)
texts-append [] us are others = others
texts-append (t ∷ ts) us are others = (are.0, texts-append ts us are.1 others)

is_text-further : (s : Separator) (ts : List (List ℕ)) → AreTexts ts → is_text (further s ts) ≡ true
is_text-further s [] all = refl
is_text-further s (t ∷ ts) all = and_from _ _ (no-feed s) (is_text-append t (further s ts) all.0 (is_text-further s ts all.1))

is_text-joined : (s : Separator) (ts : List (List ℕ)) → AreTexts ts → is_text (joined s ts) ≡ true
is_text-joined s [] all = refl
is_text-joined s (t ∷ ts) all = is_text-append t (further s ts) all.0 (is_text-further s ts all.1)

is_text-from_column : (byte n : ℕ) (text : List ℕ) → is_text text ≡ true → is_text (from_column byte n text) ≡ true
unfolding from_column
is_text-from_column byte zero text is = is
is_text-from_column byte (suc n) text is = is_text-from_column byte n _ (is_text-drop (place_of (λ b. b == byte) text + 1) text is)

is_text-from_word : (n : ℕ) (text : List ℕ) → is_text text ≡ true → is_text (from_word n text) ≡ true
unfolding from_word
is_text-from_word zero text is = is_text-drop (prefix_len is_blank text) text is
is_text-from_word (suc n) text is =
    is_text-from_word n _ (is_text-drop (place_of is_blank (after_blanks text)) (after_blanks text) (is_text-drop (prefix_len is_blank text) text is))

is_text-from : (s : Separator) (n : ℕ) (text : List ℕ) → is_text text ≡ true → is_text (from_field s n text) ≡ true
is_text-from Blanks n text is = is_text-from_word n text is
is_text-from (Byte byte) n text is = is_text-from_column byte n text is

texts-fields : (s : Separator) (ns text : List ℕ) → is_text text ≡ true → AreTexts (fields s ns text)
texts-fields s [] text is = tt
texts-fields s (n ∷ ns) text is = (is_text-between s n text is, texts-fields s ns text is)

texts-rest : (s : Separator) (n : Option ℕ) (text : List ℕ) → is_text text ≡ true → AreTexts (rest s n text)
texts-rest s None text is = tt
texts-rest s (Some n) text is = (is_text-from s n text is, tt)

pub is_text-fields : (f : Fields) (text : List ℕ) → is_text text ≡ true → is_text (fields_of f text) ≡ true
is_text-fields f text is =
    is_text-joined f.separator _
    (texts-append (fields f.separator f.indexes.items text) (rest f.separator f.rest text) (texts-fields f.separator f.indexes.items text is)
    (texts-rest f.separator f.rest text is))

-- an empty text has nothing from any field on
pub from_column-nil : (byte n : ℕ) → from_column byte n [] ≡ []
unfolding from_column
from_column-nil byte zero = refl
from_column-nil byte (suc n) = from_column-nil byte n

pub from_word-nil : (n : ℕ) → from_word n [] ≡ []
unfolding from_word
from_word-nil zero = refl
from_word-nil (suc n) = from_word-nil n

not-true : (b : Bool) → (b ≡ true → ⊥) → b ≡ false
not-true true h = absurd (h refl)
not-true false h = refl

-- the place of a byte by what a search for it finds
pub place-found : (byte : ℕ) (text : List ℕ) (k : ℕ) → IsFirstByte (is_byte byte) text (Some k) → place_of (λ b. b == byte) text ≡ k
place-found byte text k found =
    prefix_len_is (λ b. not (b == byte)) text k 0 (let h = (found.0).high in omega arith)
    (λ j l. ap not (not-true _ ((found.0).before j (omega arith) l)))
    (λ l. ap not found.1)

pub place-missed : (byte : ℕ) (text : List ℕ) → IsFirstByte (is_byte byte) text None → place_of (λ b. b == byte) text ≡ length text
place-missed byte text missed =
    prefix_len_is (λ b. not (b == byte)) text (length text) 0 (le_refl (length text))
    (λ j l. ap not (not-true _ (missed j (omega arith) l)))
    (λ l. absurd (omega arith))

pub from_column-zero : (byte : ℕ) (text : List ℕ) → from_column byte 0 text ≡ text
unfolding from_column
from_column-zero byte text = refl

pub from_column-suc : (byte n : ℕ) (text : List ℕ)
    → from_column byte (suc n) text ≡ from_column byte n (drop (place_of (λ b. b == byte) text + 1) text)
unfolding from_column
from_column-suc byte n text = refl

pub from_word-zero : (text : List ℕ) → from_word 0 text ≡ after_blanks text
unfolding from_word
from_word-zero text = refl

pub from_word-suc : (n : ℕ) (text : List ℕ) → from_word (suc n) text ≡ from_word n (drop (place_of is_blank (after_blanks text)) (after_blanks text))
unfolding from_word
from_word-suc n text = refl

-- a field is what stands first from it on
pub column-from : (byte n : ℕ) (text : List ℕ)
    → column byte n text ≡ take (place_of (λ b. b == byte) (from_column byte n text)) (from_column byte n text)
unfolding column from_column
column-from byte zero text = refl
column-from byte (suc n) text = column-from byte n _

pub word-from : (n : ℕ) (text : List ℕ) → word n text ≡ take (place_of is_blank (from_word n text)) (from_word n text)
unfolding word from_word
word-from zero text = refl
word-from (suc n) text = word-from n _

pub field-from : (s : Separator) (n : ℕ) (text : List ℕ) → field_between s n text ≡ first_field s (from_field s n text)
field-from Blanks n text = word-from n text
field-from (Byte byte) n text = column-from byte n text

-- no blank stands in front of a text without them
none-before : (text : List ℕ) → prefix_len is_blank (after_blanks text) ≡ 0
none-before [] = refl
none-before (b ∷ rest) = by (is_blank b) refl (none-before rest)
  where
    by : (is : Bool) → is_blank b ≡ is → prefix_len is_blank (after_blanks rest) ≡ 0
        → prefix_len is_blank (drop (if is then 1 + prefix_len is_blank rest else 0) (b ∷ rest)) ≡ 0
    by true is later = let on : 1 + prefix_len is_blank rest ≡ suc (prefix_len is_blank rest) = omega arith in
        ap (λ n. prefix_len is_blank (drop n (b ∷ rest))) on ∙ later
    by false is later = ap (λ x. if x then 1 + prefix_len is_blank rest else 0) is

after-twice : (text : List ℕ) → after_blanks (after_blanks text) ≡ after_blanks text
after-twice text = ap (λ n. drop n (after_blanks text)) (none-before text)

column-on : (byte a b : ℕ) (text : List ℕ) → from_column byte (a + b) text ≡ from_column byte b (from_column byte a text)
unfolding from_column
column-on byte zero b text = let on : zero + b ≡ b = omega arith in ap (λ n. from_column byte n text) on
column-on byte (suc a) b text =
    let on : suc a + b ≡ suc (a + b) = omega arith in
    ap (λ n. from_column byte n text) on ∙ column-on byte a b _

past-blanks : (n : ℕ) (text : List ℕ) → from_word n (after_blanks text) ≡ from_word n text
unfolding from_word
past-blanks zero text = after-twice text
past-blanks (suc n) text = ap (λ t. from_word n (drop (place_of is_blank t) t)) (after-twice text)

word-on : (a b : ℕ) (text : List ℕ) → from_word (a + b) text ≡ from_word b (from_word a text)
unfolding from_word
word-on zero b text = let on : zero + b ≡ b = omega arith in ap (λ n. from_word n text) on ∙ sym (past-blanks b text)
word-on (suc a) b text =
    let on : suc a + b ≡ suc (a + b) = omega arith in
    ap (λ n. from_word n text) on ∙ word-on a b _

-- from one field on, and then so many further
pub field-on : (s : Separator) (a b : ℕ) (text : List ℕ) → from_field s (a + b) text ≡ from_field s b (from_field s a text)
field-on Blanks a b text = word-on a b text
field-on (Byte byte) a b text = column-on byte a b text
