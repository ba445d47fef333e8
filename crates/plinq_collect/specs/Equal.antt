-- What tests whether an item equals a given one.
use Rattle.std.specs.Prelude.{◌≡◌, refl, ℕ, ◌%◌, nat_eq, Bool, true, false, Result, Ok, Err}
use Rattle.plinq_lambda.specs.Meaning.{Meaning}

-- the items pass that equal the given one, and no others
abbrev pub IsTestOf : {T : Type 0} → (T → T → Bool) → Meaning T → T → Type 0
IsTestOf {T} eq f item = (x : T) → f.test x ≡ Ok (eq x item)

-- ---- worked rows: what tests for 4, and what tests for the last digit 4

abbrev testing : (ℕ → Result Bool ℕ) → Meaning ℕ
testing p = record { map = λ x. Ok x; test = p; expand = λ x. Err 0 }

tests_four : IsTestOf nat_eq (testing (λ x. Ok (nat_eq x 4))) 4
tests_four x = refl

tests_last_digit : IsTestOf (λ x y. nat_eq (x % 10) (y % 10)) (testing (λ x. Ok (nat_eq (x % 10) 4))) 24
tests_last_digit x = refl

-- it is no test for 5, nor does one pass all, nor fault
tests_five : IsTestOf nat_eq (testing (λ x. Ok (nat_eq x 4))) 5 → ⊥
tests_five is = absurd (let bad : Ok true ≡ Ok false = is 4 in cc)

passes_all : IsTestOf nat_eq (testing (λ x. Ok true)) 4 → ⊥
passes_all is = absurd (let bad : Ok true ≡ Ok false = is 5 in cc)

faults : IsTestOf nat_eq (testing (λ x. Err 7)) 4 → ⊥
faults is = absurd (let bad : Err 7 ≡ Ok true = is 4 in cc)
