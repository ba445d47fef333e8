-- Operators on whole traces.
use Rattle.std.specs.Prelude.{◌≡◌, refl, ℕ, zero, suc, Bool, true, false, ◌||◌, ◌-◌, List, [], ◌∷◌}
use Rattle.std.specs.Prelude.{length, take, drop, nat_le, nat_lt, if◌then◌else◌, Option, Result, Ok}
use Rattle.plinq_source.specs.declared.ending.Ending.{Ending}
use Rattle.plinq_source.specs.declared.ending.Ending.TheVariants.{End, Refused}
use Rattle.plinq_source.specs.Trace.{Trace, open_trace, ended_trace, followed_by}
use Rattle.plinq_ops.specs.SkipWhile.{skipped_while, all_pass}

-- what an operator does: each item gives a piece of the answer, or so many items are taken or skipped, or
-- items are skipped while they pass
pub data Stage (T : Type 0) : Type 0 where
  pieces : (T → Trace T) → Stage T
  taking : ℕ → Stage T
  skipping : ℕ → Stage T
  skipping_while : (T → Result Bool ℕ) → Stage T
  unchanged : Stage T

-- the pieces of the items, one followed by another, and then this ending
abbrev pub joined_pieces : {T : Type 0} → (T → Trace T) → List T → Option Ending → Trace T
joined_pieces piece [] e = record { items = []; ending = e }
joined_pieces piece (x ∷ xs) e = followed_by (piece x) (joined_pieces piece xs e)

-- Take: where there are at least n items the first n and End, else all as it is
abbrev pub taken_trace : {T : Type 0} → ℕ → Trace T → Trace T
taken_trace n t = if nat_le n (length t.items) then ended_trace (take n t.items) End else t

-- Skip: the items without the first n, the same ending
abbrev pub skipped_trace : {T : Type 0} → ℕ → Trace T → Trace T
skipped_trace n t = record { items = drop n t.items; ending = t.ending }

-- one operator on a trace
abbrev pub apply : {T : Type 0} → Stage T → Trace T → Trace T
apply (pieces piece) t = joined_pieces piece t.items t.ending
apply (taking n) t = taken_trace n t
apply (skipping n) t = skipped_trace n t
apply (skipping_while test) t = skipped_while test t.items t.ending
apply unchanged t = t

-- the operators one after another: the sequential answer
abbrev pub seq : {T : Type 0} → List (Stage T) → Trace T → Trace T
seq [] t = t
seq (s ∷ ss) t = seq ss (apply s t)

-- what is left of an operator once these items have reached it
abbrev pub stage_after : {T : Type 0} → Stage T → List T → Stage T
stage_after (pieces piece) xs = pieces piece
stage_after (taking k) xs = taking (k - length xs)
stage_after (skipping k) xs = skipping (k - length xs)
stage_after (skipping_while test) xs = if all_pass test xs then skipping_while test else unchanged
stage_after unchanged xs = unchanged

-- what is left of the operators once this trace has gone through them
abbrev pub seq_after : {T : Type 0} → List (Stage T) → Trace T → List (Stage T)
seq_after [] t = []
seq_after (s ∷ ss) t = stage_after s t.items ∷ seq_after ss (apply s t)

-- a Take of none decides the answer before any item
abbrev pub takes_none : {T : Type 0} → Stage T → Bool
takes_none (pieces piece) = false
takes_none (taking zero) = true
takes_none (taking (suc n)) = false
takes_none (skipping n) = false
takes_none (skipping_while test) = false
takes_none unchanged = false

abbrev pub some_takes_none : {T : Type 0} → List (Stage T) → Bool
some_takes_none [] = false
some_takes_none (s ∷ ss) = takes_none s || some_takes_none ss

-- two of two items taken: End, whatever comes after them
take_two_of_two : taken_trace {T = ℕ} 2 (ended_trace (1 ∷ 2 ∷ []) (Refused 7)) ≡ ended_trace (1 ∷ 2 ∷ []) End
take_two_of_two = refl

take_three_of_two : taken_trace {T = ℕ} 3 (ended_trace (1 ∷ 2 ∷ []) (Refused 7)) ≡ ended_trace (1 ∷ 2 ∷ []) (Refused 7)
take_three_of_two = refl

take_none : taken_trace {T = ℕ} 0 (ended_trace [] (Refused 7)) ≡ ended_trace [] End
take_none = refl

-- more skipped than there are: the ending stays
skip_five_of_two : skipped_trace {T = ℕ} 5 (ended_trace (1 ∷ 2 ∷ []) (Refused 7)) ≡ ended_trace [] (Refused 7)
skip_five_of_two = refl

-- one of three skipped, and no more
skip_one_of_three : skipped_trace {T = ℕ} 1 (ended_trace (1 ∷ 2 ∷ 3 ∷ []) (Refused 7)) ≡ ended_trace (2 ∷ 3 ∷ []) (Refused 7)
skip_one_of_three = refl

-- of an open trace one more can be taken after two of three
after_two : seq_after {T = ℕ} (taking 3 ∷ skipping 1 ∷ []) (open_trace (5 ∷ 6 ∷ [])) ≡ taking 1 ∷ skipping (1 - 2) ∷ []
after_two = refl

-- after an item that fails nothing is skipped any more, whatever came before it
abbrev is_less : ℕ → ℕ → Result Bool ℕ
is_less m n = Ok (nat_lt n m)

after_one_that_fails : seq_after {T = ℕ} (skipping_while (is_less 5) ∷ taking 3 ∷ []) (open_trace (1 ∷ 9 ∷ 2 ∷ [])) ≡ unchanged ∷ taking 1 ∷ []
after_one_that_fails = refl

after_two_that_pass : seq_after {T = ℕ} (skipping_while (is_less 5) ∷ taking 3 ∷ []) (open_trace (1 ∷ 2 ∷ [])) ≡ skipping_while (is_less 5) ∷ taking 3 ∷ []
after_two_that_pass = refl
