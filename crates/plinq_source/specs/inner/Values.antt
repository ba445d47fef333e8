-- A text has no more values than bytes.
use Rattle.std.proofs.Common.{ℕ, suc, ◌≤◌, ℤ, Bool, true, false, cond, List, [], ◌∷◌, length, filter, Result, Ok, Err, arith}
use Rattle.std.specs.List.{slice_split, onto_first}
use Rattle.plinq_source.specs.Text.{is_separator, is_some_bytes, tokens, token_value, values, value_before}

-- there are no more values than tokens
length-values : (ts : List (List ℕ)) → length (values ts) ≤ length ts
length-values [] = omega arith
length-values (t ∷ ts) = within (token_value t) ts (length-values ts)
  where
    within : (r : Result ℤ ℕ) (ts : List (List ℕ)) → length (values ts) ≤ length ts → length (value_before r (values ts)) ≤ suc (length ts)
    within (Ok z) ts h = omega arith
    within (Err c) ts h = omega arith

one-less : (s : Bool) (p : List ℕ) (ps : List (List ℕ)) → length ps ≤ length (cond s (p ∷ ps) ps)
one-less true p ps = omega arith
one-less false p ps = omega arith

onto-counts : (b : ℕ) (ps : List (List ℕ)) → length (filter is_some_bytes (onto_first b ps)) ≤ suc (length (filter is_some_bytes ps))
onto-counts b [] = omega arith
onto-counts b (p ∷ ps) = omega (arith, one-less (is_some_bytes p) p (filter is_some_bytes ps))

-- there are no more tokens than bytes
length-tokens : (text : List ℕ) → length (tokens text) ≤ length text
length-tokens [] = omega arith
length-tokens (b ∷ bs) = within (is_separator b) b bs (length-tokens bs)
  where
    within : (s : Bool) (b : ℕ) (bs : List ℕ) → length (tokens bs) ≤ length bs
        → length (filter is_some_bytes (cond s ([] ∷ slice_split is_separator bs) (onto_first b (slice_split is_separator bs)))) ≤ suc (length bs)
    within true b bs h = omega arith
    within false b bs h = omega (arith, onto-counts b (slice_split is_separator bs))

pub few-values : (text : List ℕ) → length (values (tokens text)) ≤ length text
few-values text = omega (arith, length-values (tokens text), length-tokens text)
