-- What a document's text and its names come to.
use Rattle.std.proofs.Common.{◌≡◌, ℕ, ◌+◌, ◌^◌, ◌<◌, ◌≤◌, Bool, true, false, List, [], ◌∷◌, length, Some, None, Ok, Err, ok_or, refl, ap, ◌∙◌, add-one, arith}
use Rattle.std.proofs.lemmas.Bool.Decides.{nat_tests}
use Rattle.std.specs.Prelude.{if◌then◌else◌, IsUtf8, nat_le}
use Rattle.std.specs.Str.{is_utf8}
use Rattle.std.proofs.lemmas.Str.{IsUtf8-from_is_utf8, is_utf8-from_IsUtf8}
use Rattle.serde_json.specs.Data.{Data}
use Rattle.serde_json.specs.Read.{read}
use Rattle.serde_json.specs.View.{items_view}
use Rattle.serde_json.specs.declared.value.Value.{Value}
use Rattle.plinq_document.specs.JsonValues.{items_len}
use Rattle.plinq_document.specs.Document.{document_of, json_of, few_steps}
use Rattle.plinq_settings.specs.declared.settings.Settings.{Settings}
use Rattle.plinq_document.specs.declared.doc_fault.DocFault.TheVariants.{NotJson, Shape, TooLong}

-- UTF-8 that reads as a value is that value
pub json_of-read : (bytes : List ℕ) (d : Data) → IsUtf8 bytes → read bytes ≡ Some d → json_of bytes ≡ Ok d
json_of-read bytes d text reads = rw (is_utf8-from_IsUtf8 bytes text) (ap (λ o. ok_or o NotJson) reads)

-- what is no UTF-8, or reads as no value, is no JSON
pub json_of-unread : (bytes : List ℕ) → (IsUtf8 bytes → read bytes ≡ None) → json_of bytes ≡ Err NotJson
json_of-unread bytes unread = by (is_utf8 bytes) (λ e. unread (IsUtf8-from_is_utf8 bytes e))
  where
    by : (b : Bool) → (b ≡ true → read bytes ≡ None) → (if b then ok_or (read bytes) NotJson else Err NotJson) ≡ Err NotJson
    by true h = ap (λ o. ok_or o NotJson) (h refl)
    by false h = refl

-- a list of values has as many items as values
pub items_len-items_view : (vs : List Value) → items_len (items_view vs) ≡ length vs
items_len-items_view [] = refl
items_len-items_view (v ∷ vs) = ap (λ n. n + 1) (items_len-items_view vs) ∙ add-one (length vs)

-- up to 1,000 steps are few
pub few_steps-few : (vs : List Value) → length vs ≤ 1000 → few_steps (items_view vs) ≡ Ok (items_view vs)
few_steps-few vs few = let len = items_len-items_view vs in grind (arith, nat_tests)

-- and more are not
pub few_steps-many : (vs : List Value) → 1000 < length vs → few_steps (items_view vs) ≡ Err Shape
few_steps-many vs many = let len = items_len-items_view vs in grind (arith, nat_tests)

-- a text of more than 16,777,216 bytes is too long, whatever it says
pub document_of-long : (settings : Settings) (bytes : List ℕ) → 2 ^ 24 < length bytes → document_of settings bytes ≡ Err TooLong
document_of-long settings bytes long =
    let over : nat_le (length bytes) (2 ^ 24) ≡ false = grind (arith, nat_tests) in
    rw over refl
