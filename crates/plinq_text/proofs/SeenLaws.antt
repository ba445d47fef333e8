-- Texts that came, in a set of them.
use Rattle.std.proofs.Common.{◌≡◌, ℕ, ◌||◌, Bool, false, List, [], ◌∷◌, ◌++◌, if◌then◌else◌, map, Vec, Global, refl, ap, sym, ◌∙◌}
use Rattle.std.specs.List.{list_any}
use Rattle.std.specs.Str.{bytes_eq}
use Rattle.std.proofs.lemmas.List.{map-append}
use Rattle.indexmap.specs.IndexSet.{insert_key}
use Rattle.plinq_text.specs.Steps.{has, with_text_seen}

-- what a contract sees of a set's texts
abbrev pub shown : List (Vec ℕ Global) → List (List ℕ)
shown ks = map (λ k. k.items) ks

pub has-shown : (text : List ℕ) (ks : List (Vec ℕ Global)) → list_any (λ k. bytes_eq text k.items) ks ≡ has (shown ks) text
has-shown text [] = refl
has-shown text (k ∷ ks) = ap (λ b. bytes_eq text k.items || b) (has-shown text ks)

-- a text that is there
pub seen-there : (seen : List (List ℕ)) (text : List ℕ) (b : Bool) → has seen text ≡ b → seen ≡ (if b then seen else seen ++ text ∷ [])
    → seen ≡ with_text_seen seen text
seen-there seen text b is same = same ∙ sym (ap (λ b. if b then seen else seen ++ text ∷ []) is)

-- a text that is new
pub seen-new : (ks : List (Vec ℕ Global)) (k : Vec ℕ Global) (text : List ℕ) → k.items ≡ text → list_any (λ x. bytes_eq text x.items) ks ≡ false
    → shown (insert_key (λ a b. bytes_eq a.items b.items) ks k) ≡ with_text_seen (shown ks) text
seen-new ks k text is none =
    let other : list_any (λ x. bytes_eq k.items x.items) ks ≡ false = ap (λ t. list_any (λ x. bytes_eq t x.items) ks) is ∙ none in
    ap (λ b. shown (if b then ks else ks ++ k ∷ [])) other
    ∙ map-append (λ k. k.items) ks (k ∷ [])
    ∙ ap (λ t. shown ks ++ t ∷ []) is
    ∙ sym (ap (λ b. if b then shown ks else shown ks ++ text ∷ []) (sym (has-shown text ks) ∙ none))
