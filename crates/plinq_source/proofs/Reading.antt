-- What one call of `next` does to a text: a value, or a refusal.
use Rattle.std.proofs.Common.{◌≡◌, ℕ, suc, ◌+◌, ◌-◌, ◌≤◌, ◌==◌, ℤ, true, false, List, [], ◌∷◌, length, drop, Some, Ok, Err, refl, sym, ap, ◌∙◌, arith}
use Rattle.std.proofs.lemmas.List.{drop-drop, length-drop}
use Rattle.plinq_source.specs.Trace.{ended_trace, step_at, step_of, given_after}
use Rattle.plinq_source.specs.Text.{is_some_bytes, tokens, token_ahead, token_value, values, value_before, refusal, refusal_before}
use Rattle.plinq_source.specs.declared.ending.Ending.{Ending}
use Rattle.plinq_source.specs.declared.step.Step.TheVariants.{Item}
use Rattle.plinq_source.proofs.Tokens.{tokens-ahead}

-- one value is read between two places of a text
pub record ReadsValue (text : List ℕ) (at : ℕ) (z : ℤ) (after : ℕ) : Type 0 where
  pub items : values (tokens (drop at text)) ≡ z ∷ values (tokens (drop after text))
  pub ending : refusal (tokens (drop at text)) ≡ refusal (tokens (drop after text))

-- the text refuses at that place
pub record Refuses (text : List ℕ) (at code : ℕ) : Type 0 where
  pub items : values (tokens (drop at text)) ≡ []
  pub ending : refusal (tokens (drop at text)) ≡ Some code

some-bytes : (bs : List ℕ) → false ≡ (length bs == 0) → is_some_bytes bs ≡ true
some-bytes [] h = cc
some-bytes (b ∷ bs) h = refl

-- `rest` is the text from a place on, after the blanks that stand there, and isn't empty: a token is ahead
pub record StandsAhead (text : List ℕ) (at skipped : ℕ) (left rest : List ℕ) : Type 0 where
  pub here : left ≡ drop at text
  pub past : rest ≡ drop skipped left
  pub same : tokens (drop skipped left) ≡ tokens left
  pub ahead : is_some_bytes (token_ahead (drop skipped left)) ≡ is_some_bytes (drop skipped left)
  pub more : false ≡ (length rest == 0)

pub standing : (text slice : List ℕ) (at skipped : ℕ) (left rest : List ℕ) → slice ≡ text → left ≡ drop at slice → rest ≡ drop skipped left
    → tokens (drop skipped left) ≡ tokens left → is_some_bytes (token_ahead (drop skipped left)) ≡ is_some_bytes (drop skipped left)
    → false ≡ (length rest == 0) → StandsAhead text at skipped left rest
standing text slice at skipped left rest e here past same ahead more =
    record { here = here ∙ ap (drop at) e; past = past; same = same; ahead = ahead; more = more }

-- to pass over the blanks changes nothing
pub unmoved : (text : List ℕ) (at skipped : ℕ) (left rest : List ℕ) → StandsAhead text at skipped left rest
    → tokens (drop (at + skipped) text) ≡ tokens (drop at text)
unmoved text at skipped left rest s = ap tokens (sym (ap (drop skipped) s.here ∙ drop-drop skipped at text)) ∙ s.same ∙ ap tokens s.here

first-token : (text : List ℕ) (at skipped : ℕ) (left rest : List ℕ) → StandsAhead text at skipped left rest
    → tokens (drop at text) ≡ token_ahead rest ∷ tokens (drop (at + skipped + length (token_ahead rest)) text)
first-token text at skipped left rest s =
    let n : ℕ = length (token_ahead rest) in
    let where_rest : rest ≡ drop (at + skipped) text = s.past ∙ ap (drop skipped) s.here ∙ drop-drop skipped at text in
    let where_after : drop n rest ≡ drop (at + skipped + n) text = ap (drop n) where_rest ∙ drop-drop n (at + skipped) text in
    let some : is_some_bytes (token_ahead rest) ≡ true =
    ap (λ bs. is_some_bytes (token_ahead bs)) s.past ∙ s.ahead ∙ ap is_some_bytes (sym s.past) ∙ some-bytes rest s.more in
    ap tokens (sym s.here) ∙ sym s.same ∙ ap tokens (sym s.past) ∙ tokens-ahead rest some ∙ ap (λ bs. token_ahead rest ∷ tokens bs) where_after

pub reads_value : (text : List ℕ) (at skipped : ℕ) (left rest : List ℕ) (n : ℕ) (z : ℤ) → StandsAhead text at skipped left rest
    → n ≡ length (token_ahead rest) → Ok z ≡ token_value (token_ahead rest) → ReadsValue text at z (at + skipped + n)
reads_value text at skipped left rest n z s long said =
    let after : List (List ℕ) = tokens (drop (at + skipped + n) text) in
    let first : tokens (drop at text) ≡ token_ahead rest ∷ after =
    first-token text at skipped left rest s ∙ ap (λ k. token_ahead rest ∷ tokens (drop (at + skipped + k) text)) (sym long) in
    record {
      items = ap values first ∙ ap (λ r. value_before r (values after)) (sym said);
      ending = ap refusal first ∙ ap (λ r. refusal_before r (refusal after)) (sym said);
    }

pub refuses : (text : List ℕ) (at skipped : ℕ) (left rest : List ℕ) (code : ℕ) → StandsAhead text at skipped left rest
    → Err code ≡ token_value (token_ahead rest) → Refuses text at code
refuses text at skipped left rest code s said =
    let after : List (List ℕ) = tokens (drop (at + skipped + length (token_ahead rest)) text) in
    let first : tokens (drop at text) ≡ token_ahead rest ∷ after = first-token text at skipped left rest s in
    record {
      items = ap values first ∙ ap (λ r. value_before r (values after)) (sym said);
      ending = ap refusal first ∙ ap (λ r. refusal_before r (refusal after)) (sym said);
    }

-- what is left of a list is no longer than it
pub left-within : (all left : List ℤ) → drop (length all - length left) all ≡ left → length left ≤ length all
left-within all left h =
    let long : length all - (length all - length left) ≡ length left = sym (length-drop (length all - length left) all) ∙ ap length h in
    omega arith

-- one item on, what is left is one item shorter
pub left_more : (all left rest : List ℤ) (z : ℤ) → drop (length all - length left) all ≡ left → left ≡ z ∷ rest → drop (length all - length rest) all ≡ rest
left_more all left rest z h e =
    let long : length left ≡ suc (length rest) = ap length e in
    let within : length left ≤ length all = left-within all left h in
    let place : length all - length rest ≡ (length all - length left) + 1 = omega arith in
    ap (λ n. drop n all) place ∙ sym (drop-drop 1 (length all - length left) all) ∙ ap (drop 1) (h ∙ e)

pub given_more : (all left rest : List ℤ) (z : ℤ) (e : Ending) → drop (length all - length left) all ≡ left → left ≡ z ∷ rest
    → length all - length rest ≡ given_after (ended_trace all e) (length all - length left)
given_more all left rest z e h is =
    let long : length left ≡ suc (length rest) = ap length is in
    let within : length left ≤ length all = left-within all left h in
    omega arith

-- the answer where a value is left, and where nothing is
pub step_at-left : (all left rest : List ℤ) (z : ℤ) (e : Ending) → drop (length all - length left) all ≡ left → left ≡ z ∷ rest
    → step_at (ended_trace all e) (length all - length left) ≡ Item z
step_at-left all left rest z e h is = ap (λ zs. step_of zs (Some e)) (h ∙ is)

pub step_at-none : (all left : List ℤ) (e : Ending) → drop (length all - length left) all ≡ left → left ≡ []
    → step_at (ended_trace all e) (length all - length left) ≡ step_of [] (Some e)
step_at-none all left e h is = ap (λ zs. step_of zs (Some e)) (h ∙ is)

-- where nothing is left all was handed out
pub given-none : (all left : List ℤ) (e : Ending) → left ≡ [] → length all - length left ≡ given_after (ended_trace all e) (length all - length left)
given-none all left e is = let long : length left ≡ 0 = ap length is in omega arith
