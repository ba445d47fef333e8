-- Formulas: what each makes of an element, and how each stands in every operator.
use Rattle.std.specs.Prelude.{◌≡◌, ℕ, zero, suc, ◌-◌, ◌%◌, ◌^◌, ◌==◌, nat_le, Bool, true, false, ◌&&◌, not, if◌then◌else◌, List, [], ◌∷◌, ◌++◌, replicate}
use Rattle.std.specs.Prelude.{Result, Ok, Err, ℤ, pos, negsuc, neg_ℤ, ◌+ℤ◌, ◌*ℤ◌, int_div, int_rem, int_lt, int_le, unsigned_abs, refl}
use Rattle.std.specs.Ordering.{int_eq}
use Rattle.plinq_lambda.specs.Meaning.{Meaning, most_items}
use Rattle.plinq_lambda.specs.declared.formula.Formula.{Formula}
use Rattle.plinq_lambda.specs.declared.formula.Formula.TheVariants.{Add, Mul, Mod, Into, Below, Above, Equal, Even, Repeat, UpTo}

-- the code of a result that is no i64
abbrev pub overflow : ℕ
overflow = 1

-- the code of a division by zero
abbrev pub divide_by_zero : ℕ
divide_by_zero = 2

-- the code of an expansion that is too long
abbrev pub too_many : ℕ
too_many = 3

-- the least i64
abbrev pub least_number : ℤ
least_number = negsuc (2 ^ 63 - 1)

-- the greatest i64
abbrev pub greatest_number : ℤ
greatest_number = pos (2 ^ 63 - 1)

-- a whole number as an element: itself where it is an i64, else Overflow
abbrev pub fits : ℤ → Result ℤ ℕ
fits z = if int_le least_number z && int_le z greatest_number then Ok z else Err overflow

-- x by y, cut toward zero
abbrev pub quotient : ℤ → ℤ → Result ℤ ℕ
quotient x y = if int_eq y (pos 0) then Err divide_by_zero else fits (int_div x y)

-- what that division leaves over, with the sign of x
abbrev pub remainder : ℤ → ℤ → Result ℤ ℕ
remainder x y = if int_eq y (pos 0) then Err divide_by_zero else fits (int_rem x y)

-- a multiple of two, on either side of zero
abbrev pub is_even : ℤ → Bool
is_even x = unsigned_abs x % 2 == 0

-- 1, 2, .. up to n
abbrev pub numbers_up_to : ℕ → List ℤ
numbers_up_to zero = []
numbers_up_to (suc n) = numbers_up_to n ++ pos (suc n) ∷ []

-- how many items a count asks for: none below zero, and too many above the most
abbrev pub expansion_length : ℤ → Result ℕ ℕ
expansion_length (pos n) = if nat_le n most_items then Ok n else Err too_many
expansion_length (negsuc n) = Ok 0

-- the list of that many items
abbrev pub counted_items : (ℕ → List ℤ) → Result ℕ ℕ → Result (List ℤ) ℕ
counted_items items (Ok n) = Ok (items n)
counted_items items (Err code) = Err code

-- what is made of an element, by the formula's kind: arithmetic makes a number, a test an answer, an expansion a list
pub data Outcome : Type 0 where
  Number : Result ℤ ℕ → Outcome
  Answer : Bool → Outcome
  Items : Result (List ℤ) ℕ → Outcome

-- what each formula makes of x
abbrev pub outcome : Formula → ℤ → Outcome
outcome (Add c) x = Number (fits (x +ℤ c))
outcome (Mul c) x = Number (fits (x *ℤ c))
outcome (Mod c) x = Number (remainder x c)
outcome (Into c) x = Number (quotient c x)
outcome (Below c) x = Answer (int_lt x c)
outcome (Above c) x = Answer (int_lt c x)
outcome (Equal c) x = Answer (int_eq x c)
outcome Even x = Answer (is_even x)
outcome (Repeat c) x = Items (counted_items (λ n. replicate n x) (expansion_length c))
outcome UpTo x = Items (counted_items numbers_up_to (expansion_length x))

-- as the element of a Select: a test is 1 or 0, and an expansion leaves x as it is
abbrev pub mapped_element : ℤ → Outcome → Result ℤ ℕ
mapped_element x (Number r) = r
mapped_element x (Answer b) = Ok (if b then pos 1 else pos 0)
mapped_element x (Items r) = Ok x

-- a number passes exactly if it isn't 0
abbrev pub is_not_zero : Result ℤ ℕ → Result Bool ℕ
is_not_zero (Ok y) = Ok (not (int_eq y (pos 0)))
is_not_zero (Err code) = Err code

-- as the answer of a Where: what is no test passes as its mapped element does
abbrev pub test_answer : ℤ → Outcome → Result Bool ℕ
test_answer x (Answer b) = Ok b
test_answer x o = is_not_zero (mapped_element x o)

-- a number alone
abbrev pub single_item : Result ℤ ℕ → Result (List ℤ) ℕ
single_item (Ok y) = Ok (y ∷ [])
single_item (Err code) = Err code

-- as the items of a SelectMany: what is no expansion is its mapped element alone
abbrev pub expanded_items : ℤ → Outcome → Result (List ℤ) ℕ
expanded_items x (Items r) = r
expanded_items x o = single_item (mapped_element x o)

-- the three functions that a formula stands for
abbrev pub formula_meaning : Formula → Meaning ℤ
formula_meaning f = record {
  map = λ x. mapped_element x (outcome f x);
  test = λ x. test_answer x (outcome f x);
  expand = λ x. expanded_items x (outcome f x);
}

-- ---- worked rows: a number -n is written neg_ℤ (pos n)

-- arithmetic: one more than the greatest, one less than the least, and the negative of the least are no i64
pub greatest_plus_one : (formula_meaning (Add (pos 1))).map greatest_number ≡ Err overflow
greatest_plus_one = refl

pub least_minus_one : (formula_meaning (Add (neg_ℤ (pos 1)))).map least_number ≡ Err overflow
least_minus_one = refl

pub greatest_minus_one : (formula_meaning (Add (neg_ℤ (pos 1)))).map greatest_number ≡ Ok (pos (2 ^ 63 - 2))
greatest_minus_one = refl

pub least_times_minus_one : (formula_meaning (Mul (neg_ℤ (pos 1)))).map least_number ≡ Err overflow
least_times_minus_one = refl

pub three_times_minus_two : (formula_meaning (Mul (neg_ℤ (pos 2)))).map (pos 3) ≡ Ok (neg_ℤ (pos 6))
three_times_minus_two = refl

-- division cuts toward zero, and the remainder has the sign of what is divided
pub minus_one_into_least : (formula_meaning (Into least_number)).map (neg_ℤ (pos 1)) ≡ Err overflow
minus_one_into_least = refl

pub two_into_minus_seven : (formula_meaning (Into (neg_ℤ (pos 7)))).map (pos 2) ≡ Ok (neg_ℤ (pos 3))
two_into_minus_seven = refl

pub zero_into_ten : (formula_meaning (Into (pos 10))).map (pos 0) ≡ Err divide_by_zero
zero_into_ten = refl

pub least_mod_minus_one : (formula_meaning (Mod (neg_ℤ (pos 1)))).map least_number ≡ Ok (pos 0)
least_mod_minus_one = refl

pub minus_seven_mod_three : (formula_meaning (Mod (pos 3))).map (neg_ℤ (pos 7)) ≡ Ok (neg_ℤ (pos 1))
minus_seven_mod_three = refl

pub seven_mod_minus_three : (formula_meaning (Mod (neg_ℤ (pos 3)))).map (pos 7) ≡ Ok (pos 1)
seven_mod_minus_three = refl

pub seven_mod_zero : (formula_meaning (Mod (pos 0))).map (pos 7) ≡ Err divide_by_zero
seven_mod_zero = refl

-- tests
pub three_below_three : (formula_meaning (Below (pos 3))).test (pos 3) ≡ Ok false
three_below_three = refl

pub three_above_three : (formula_meaning (Above (pos 3))).test (pos 3) ≡ Ok false
three_above_three = refl

pub three_equal_three : (formula_meaning (Equal (pos 3))).test (pos 3) ≡ Ok true
three_equal_three = refl

pub minus_two_even : (formula_meaning Even).test (neg_ℤ (pos 2)) ≡ Ok true
minus_two_even = refl

pub minus_three_even : (formula_meaning Even).test (neg_ℤ (pos 3)) ≡ Ok false
minus_three_even = refl

-- expansions
pub repeat_two : (formula_meaning (Repeat (pos 2))).expand (pos 7) ≡ Ok (pos 7 ∷ pos 7 ∷ [])
repeat_two = refl

pub repeat_zero : (formula_meaning (Repeat (pos 0))).expand (pos 7) ≡ Ok []
repeat_zero = refl

pub repeat_minus_one : (formula_meaning (Repeat (neg_ℤ (pos 1)))).expand (pos 7) ≡ Ok []
repeat_minus_one = refl

pub repeat_too_many : (formula_meaning (Repeat (pos 65537))).expand (pos 7) ≡ Err too_many
repeat_too_many = refl

pub up_to_three : (formula_meaning UpTo).expand (pos 3) ≡ Ok (pos 1 ∷ pos 2 ∷ pos 3 ∷ [])
up_to_three = refl

pub up_to_minus_one : (formula_meaning UpTo).expand (neg_ℤ (pos 1)) ≡ Ok []
up_to_minus_one = refl

pub up_to_too_many : (formula_meaning UpTo).expand (pos 65537) ≡ Err too_many
up_to_too_many = refl

-- each in an operator that isn't its own
pub map_even : (formula_meaning Even).map (pos 4) ≡ Ok (pos 1)
map_even = refl

pub map_up_to : (formula_meaning UpTo).map (pos 4) ≡ Ok (pos 4)
map_up_to = refl

pub test_of_zero : (formula_meaning (Add (pos 1))).test (neg_ℤ (pos 1)) ≡ Ok false
test_of_zero = refl

pub test_of_fault : (formula_meaning (Into (pos 10))).test (pos 0) ≡ Err divide_by_zero
test_of_fault = refl

pub test_repeat : (formula_meaning (Repeat (pos 0))).test (pos 7) ≡ Ok true
test_repeat = refl

pub expand_add : (formula_meaning (Add (pos 1))).expand (pos 2) ≡ Ok (pos 3 ∷ [])
expand_add = refl

pub expand_below : (formula_meaning (Below (pos 3))).expand (pos 3) ≡ Ok (pos 0 ∷ [])
expand_below = refl

pub expand_of_fault : (formula_meaning (Add (pos 1))).expand greatest_number ≡ Err overflow
expand_of_fault = refl
