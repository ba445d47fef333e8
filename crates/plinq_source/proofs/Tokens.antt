-- A text token by token: what stands ahead, and what is left after it.
use Rattle.std.proofs.Common.{◌≡◌, ℕ, suc, ◌≤◌, Bool, true, false, cond, List, [], ◌∷◌, length, drop, filter, refl, sym, ap, ◌∙◌, arith}
use Rattle.std.specs.List.{slice_split, onto_first}
use Rattle.std.proofs.lemmas.List.Splits.{slice_split-cons_yes}
use Rattle.plinq_source.specs.Text.{is_separator, is_some_bytes, tokens, token_ahead}

-- a separator at the head of a text is in no token
pub tokens-separator : (b : ℕ) (bs : List ℕ) → is_separator b ≡ true → tokens (b ∷ bs) ≡ tokens bs
tokens-separator b bs h = ap (filter is_some_bytes) (slice_split-cons_yes is_separator b bs h)

-- the parts of a text after the token that stands ahead
parts_after : List ℕ → List (List ℕ)
parts_after [] = []
parts_after (b ∷ bs) = cond (is_separator b) (slice_split is_separator bs) (parts_after bs)

split-cases : (s : Bool) (b : ℕ) (bs : List ℕ) → slice_split is_separator bs ≡ token_ahead bs ∷ parts_after bs
    → cond s ([] ∷ slice_split is_separator bs) (onto_first b (slice_split is_separator bs))
    ≡ cond s [] (b ∷ token_ahead bs) ∷ cond s (slice_split is_separator bs) (parts_after bs)
split-cases true b bs ih = refl
split-cases false b bs ih = ap (onto_first b) ih

split-ahead : (text : List ℕ) → slice_split is_separator text ≡ token_ahead text ∷ parts_after text
unfolding parts_after
split-ahead [] = refl
split-ahead (b ∷ bs) = split-cases (is_separator b) b bs (split-ahead bs)

after-cases : (s : Bool) (b : ℕ) (bs : List ℕ) → is_separator b ≡ s
    → filter is_some_bytes (parts_after bs) ≡ tokens (drop (length (token_ahead bs)) bs)
    → filter is_some_bytes (cond s (slice_split is_separator bs) (parts_after bs)) ≡ tokens (drop (length (cond s [] (b ∷ token_ahead bs))) (b ∷ bs))
after-cases true b bs e ih = sym (tokens-separator b bs e)
after-cases false b bs e ih = ih

tokens-after : (text : List ℕ) → filter is_some_bytes (parts_after text) ≡ tokens (drop (length (token_ahead text)) text)
unfolding parts_after
tokens-after [] = refl
tokens-after (b ∷ bs) = after-cases (is_separator b) b bs refl (tokens-after bs)

some-first : (t : List ℕ) (ts : List (List ℕ)) → is_some_bytes t ≡ true → filter is_some_bytes (t ∷ ts) ≡ t ∷ filter is_some_bytes ts
some-first t ts h = ap (λ s. cond s (t ∷ filter is_some_bytes ts) (filter is_some_bytes ts)) h

-- where a token stands ahead, it is the first
pub tokens-ahead : (text : List ℕ) → is_some_bytes (token_ahead text) ≡ true → tokens text ≡ token_ahead text ∷ tokens (drop (length (token_ahead text)) text)
tokens-ahead text h =
    ap (filter is_some_bytes) (split-ahead text)
    ∙ some-first (token_ahead text) (parts_after text) h
    ∙ ap (λ ts. token_ahead text ∷ ts) (tokens-after text)

-- a token that stands ahead has no more bytes than the text
pub length-token_ahead : (text : List ℕ) → length (token_ahead text) ≤ length text
length-token_ahead [] = omega arith
length-token_ahead (b ∷ bs) = within (is_separator b) b bs (length-token_ahead bs)
  where
    within : (s : Bool) (b : ℕ) (bs : List ℕ) → length (token_ahead bs) ≤ length bs → length (cond s [] (b ∷ token_ahead bs)) ≤ suc (length bs)
    within true b bs h = omega arith
    within false b bs h = omega arith
