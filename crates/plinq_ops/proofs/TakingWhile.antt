-- A block at a TakeWhile, by the items before the first that fails.
use Rattle.std.specs.Prelude.{◌≡◌, ℕ, List, [], ◌∷◌, ◌<◌, length, take, Bool, true, false, Option, Some, None, Result, Ok, Err, refl}
use Rattle.std.proofs.Common.{ap, arith}
use Rattle.plinq_source.specs.declared.ending.Ending.TheVariants.{End, Fault}
use Rattle.plinq_source.specs.Trace.{Trace, open_trace, ended_trace, followed_by}
use Rattle.plinq_lambda.specs.Block.{BlockResult, passing_from, passing_block}
use Rattle.plinq_ops.specs.Stage.{joined_pieces}
use Rattle.plinq_ops.specs.Operator.{taken_while}

-- the items that pass, and then a fault, the end after one that failed, or nothing where all pass
pub record IsTaken {T : Type 0} (taken : Trace T) (xs : List T) (passing : BlockResult T) : Type 0 where
  pub faulted : (code : ℕ) → passing.fault ≡ Some code → taken ≡ ended_trace passing.items (Fault code)
  pub whole : passing.fault ≡ None → length passing.items ≡ length xs → taken ≡ open_trace passing.items
  pub stopped : passing.fault ≡ None → length passing.items < length xs → taken ≡ ended_trace passing.items End

fault_is : {a b : ℕ} → Some a ≡ Some b → a ≡ b
fault_is same = cc

taken-first : {T : Type 0} (r : Result Bool ℕ) (x : T) (xs : List T) (taken : Trace T) (passing : BlockResult T) → IsTaken taken xs passing
    → IsTaken (followed_by (taken_while r x) taken) (x ∷ xs) (passing_from r x passing)
taken-first (Ok true) x xs taken passing rest = record {
  faulted = λ code is. ap (followed_by (open_trace (x ∷ []))) (rest.faulted code is);
  whole = λ none all. ap (followed_by (open_trace (x ∷ []))) (rest.whole none (omega (arith, all)));
  stopped = λ none fewer. ap (followed_by (open_trace (x ∷ []))) (rest.stopped none (omega (arith, fewer)));
}
taken-first (Ok false) x xs taken passing rest =
    record { faulted = λ code bad. absurd (cc); whole = λ none bad. absurd (omega (arith, bad)); stopped = λ none fewer. refl }
taken-first (Err code) x xs taken passing rest =
    record { faulted = λ other is. ap (λ c. ended_trace [] (Fault c)) (fault_is is); whole = λ bad all. absurd (cc); stopped = λ bad fewer. absurd (cc) }

taken-block : {T : Type 0} (test : T → Result Bool ℕ) (xs : List T) → IsTaken (joined_pieces (λ x. taken_while (test x) x) xs None) xs (passing_block test xs)
taken-block test [] = record { faulted = λ code bad. absurd (cc); whole = λ none all. refl; stopped = λ none bad. absurd (omega (arith, bad)) }
taken-block test (x ∷ xs) = taken-first (test x) x xs (joined_pieces (λ y. taken_while (test y) y) xs None) (passing_block test xs) (taken-block test xs)

-- the same, where so many of a block pass
pub taken-passing : {T : Type 0} (test : T → Result Bool ℕ) (xs : List T) (n : ℕ) (fault : Option ℕ)
    → record { items = take n xs; fault = fault } ≡ passing_block test xs
    → IsTaken (joined_pieces (λ x. taken_while (test x) x) xs None) xs (record { items = take n xs; fault = fault })
taken-passing test xs n fault same = rw same (taken-block test xs)
