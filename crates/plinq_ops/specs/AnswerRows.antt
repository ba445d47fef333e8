-- Rows of answers: which an unordered query may give, and how many items decide one.
use Rattle.std.specs.Prelude.{◌≡◌, refl, ℕ, zero, suc, pos, ◌<◌, [], ◌∷◌, length, get_or, true, false, Some, None}
use Rattle.std.proofs.Common.{arith, ap, sym, ◌∙◌}
use Rattle.std.specs.List.{sum_by}
use Rattle.std.proofs.lemmas.List.Sorted.{length_permutation, sum_by-IsPermutation}
use Rattle.plinq_source.specs.declared.ending.Ending.TheVariants.{End, Refused}
use Rattle.plinq_source.specs.Trace.{Trace, ended_trace}
use Rattle.plinq_ops.specs.declared.op.Op.TheVariants.{Select, Take, SkipWhile, AsUnordered}
use Rattle.plinq_ops.specs.Stage.{taking, skipping_while, seq}
use Rattle.plinq_ops.specs.Operator.{example}
use Rattle.plinq_ops.specs.Sequential.{first_items, IsLeastDeciding, IsDecidingInBlocks}
use Rattle.plinq_ops.specs.Answer.{Answer}

-- the rows' source
abbrev three_items : Trace ℕ
three_items = ended_trace (1 ∷ 2 ∷ 3 ∷ []) (Refused 7)

-- any two of three
take_any_two : Answer {L = ℕ} (λ _. example) false (Take (pos 2) ∷ []) three_items (ended_trace (3 ∷ 2 ∷ []) End)
take_any_two = record {
  between = ended_trace (3 ∷ 2 ∷ 1 ∷ []) (Refused 7);
  given = record { items = record { moves = (0, 2) ∷ []; below = (omega arith, omega arith, tt); is = refl }; ending = refl };
  goes_on = record { between = ended_trace (3 ∷ 2 ∷ []) End; given = refl; goes_on = refl };
}

-- the first two of three, in any order
as_unordered_after_a_take : Answer {L = ℕ} (λ _. example) true (Take (pos 2) ∷ AsUnordered ∷ []) three_items (ended_trace (2 ∷ 1 ∷ []) End)
as_unordered_after_a_take = record {
  between = ended_trace (1 ∷ 2 ∷ []) End;
  given = refl;
  goes_on = record {
    between = ended_trace (2 ∷ 1 ∷ []) End;
    given = record { items = record { moves = (0, 1) ∷ []; below = (omega arith, omega arith, tt); is = refl }; ending = refl };
    goes_on = refl;
  };
}

-- SkipWhile begins with the first that fails of any order: here 9, of 1, 9 and 2
skip_while_of_another_order : Answer {L = ℕ} (λ _. example) false (SkipWhile 0 ∷ []) (ended_trace (1 ∷ 9 ∷ 2 ∷ []) End) (ended_trace (9 ∷ 1 ∷ 2 ∷ []) End)
skip_while_of_another_order = record {
  between = ended_trace (9 ∷ 1 ∷ 2 ∷ []) End;
  given = record { items = record { moves = (0, 1) ∷ []; below = (omega arith, omega arith, tt); is = refl }; ending = refl };
  goes_on = record { between = ended_trace (9 ∷ 1 ∷ 2 ∷ []) End; given = refl; goes_on = refl };
}

-- an ordered query has one answer
ordered_alone : (u : Trace ℕ) → Answer {L = ℕ} (λ _. example) true (Select 0 ∷ []) three_items u → u ≡ ended_trace (0 ∷ 1 ∷ 2 ∷ []) (Refused 7)
ordered_alone u answer = answer.goes_on ∙ answer.given

-- the ending stays whatever the order is
ending_stays : (u : Trace ℕ) → Answer {L = ℕ} (λ _. example) false [] three_items u → u.ending ≡ Some (Refused 7)
ending_stays u answer = ap (λ (t : Trace ℕ). t.ending) answer.goes_on ∙ answer.given.ending

-- no item is lost, and none is invented
an_item_is_lost : Answer {L = ℕ} (λ _. example) false [] three_items (ended_trace (1 ∷ 3 ∷ []) (Refused 7)) → ⊥
an_item_is_lost answer =
    let items : answer.between.items ≡ 1 ∷ 3 ∷ [] = sym (ap (λ (t : Trace ℕ). t.items) answer.goes_on) in
    absurd (omega (arith, ap length items, length_permutation three_items.items answer.between.items answer.given.items))

an_item_is_invented : Answer {L = ℕ} (λ _. example) false [] three_items (ended_trace (1 ∷ 2 ∷ 4 ∷ []) (Refused 7)) → ⊥
an_item_is_invented answer =
    let items : answer.between.items ≡ 1 ∷ 2 ∷ 4 ∷ [] = sym (ap (λ (t : Trace ℕ). t.items) answer.goes_on) in
    absurd (omega (arith, ap (sum_by (λ n. n)) items, sum_by-IsPermutation (λ n. n) three_items.items answer.between.items answer.given.items))

-- an ordered query keeps the order
another_order : Answer {L = ℕ} (λ _. example) true [] three_items (ended_trace (2 ∷ 1 ∷ 3 ∷ []) (Refused 7)) → ⊥
another_order answer = let first : 2 ≡ 1 = ap (λ (t : Trace ℕ). get_or t.items 0 0) answer in absurd (omega (arith, first))

-- the second item decides a Take of 2: not one fewer, and not one more
two_decide : IsLeastDeciding (taking 2 ∷ []) three_items 2
two_decide = record { within = omega arith; open_before = open_with; decided = λ fewer. refl }
  where
    open_with : (j : ℕ) → j < 2 → (seq (taking 2 ∷ []) (first_items j three_items)).ending ≡ None
    open_with zero below = refl
    open_with (suc zero) below = refl
    open_with (suc (suc j)) below = absurd (omega arith)

one_is_too_few : IsLeastDeciding (taking 2 ∷ []) three_items 1 → ⊥
one_is_too_few least = let decided = least.decided (omega arith) in absurd (cc)

three_are_too_many : IsLeastDeciding (taking 2 ∷ []) three_items 3 → ⊥
three_are_too_many least = let decided = least.open_before 2 (omega arith) in absurd (cc)

-- the first item decides a Take of 1, and may come in a block of two; the third would be one of the next block
block_of_two : IsDecidingInBlocks 2 (taking 1 ∷ []) three_items 2
block_of_two = record { within = omega arith; open_before = λ some. refl; decided = λ fewer. refl }

block_too_many : IsDecidingInBlocks 2 (taking 1 ∷ []) three_items 3 → ⊥
block_too_many came = let decided = came.open_before (omega arith) in absurd (cc)

-- where nothing is taken, not one of any block comes
block_for_nothing : IsDecidingInBlocks 512 (taking 0 ∷ []) three_items 1 → ⊥
block_for_nothing came = let decided = came.open_before (omega arith) in absurd (cc)

-- the first that fails a SkipWhile is all that a Take of 1 after it waits for
skip_while_and_take : seq (skipping_while example.test ∷ taking 1 ∷ []) (ended_trace (1 ∷ 9 ∷ 3 ∷ []) End) ≡ ended_trace (9 ∷ []) End
skip_while_and_take = refl

first_that_fails_decides : IsLeastDeciding (skipping_while example.test ∷ taking 1 ∷ []) (ended_trace (1 ∷ 9 ∷ 3 ∷ []) End) 2
first_that_fails_decides = record { within = omega arith; open_before = open_with; decided = λ fewer. refl }
  where
    open_with : (j : ℕ) → j < 2 → (seq (skipping_while example.test ∷ taking 1 ∷ []) (first_items j (ended_trace (1 ∷ 9 ∷ 3 ∷ []) End))).ending ≡ None
    open_with zero below = refl
    open_with (suc zero) below = refl
    open_with (suc (suc j)) below = absurd (omega arith)
