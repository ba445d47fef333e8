-- No expansion of a formula has more than 65,536 items.
use Rattle.std.proofs.Common.{◌≡◌, ℕ, zero, suc, ◌≤◌, List, [], ◌∷◌, length, replicate, Result, Ok, Err, IfOk, ℤ, pos, negsuc, refl, arith, length-append}
use Rattle.std.proofs.lemmas.List.{length-replicate}
use Rattle.std.proofs.lemmas.Bool.Decides.{nat_tests}
use Rattle.plinq_lambda.specs.Meaning.{most_items}
use Rattle.plinq_lambda.specs.Formula.{outcome, single_item, counted_items, expansion_length, numbers_up_to, mapped_element, formula_meaning}
use Rattle.plinq_lambda.specs.declared.formula.Formula.{Formula}
use Rattle.plinq_lambda.specs.declared.formula.Formula.TheVariants.{Repeat, UpTo}

-- a fault, or at most 65,536 items
abbrev pub IsShort : Result (List ℤ) ℕ → Type 0
IsShort r = IfOk r (λ ys. length ys ≤ most_items)

-- there are n numbers from 1 to n
pub length-numbers_up_to : (n : ℕ) → length (numbers_up_to n) ≡ n
length-numbers_up_to zero = refl
length-numbers_up_to (suc n) = omega (arith, length-append (numbers_up_to n) (pos (suc n) ∷ []), length-numbers_up_to n)

-- one number alone is short
single_item-short : (r : Result ℤ ℕ) → IsShort (single_item r)
single_item-short (Ok y) = omega arith
single_item-short (Err code) = tt

-- where each list is as long as its count says, the count bounds it
counted_items-short : (items : ℕ → List ℤ) (count : ℤ) → ((n : ℕ) → length (items n) ≡ n) → IsShort (counted_items items (expansion_length count))
counted_items-short items (pos n) exact = grind (arith, nat_tests, exact n)
counted_items-short items (negsuc n) exact = omega (arith, exact 0)

-- what the trait asks of each lambda
pub formula_meaning-short : (f : Formula) (x : ℤ) → IfOk ((formula_meaning f).expand x) (λ ys. length ys ≤ most_items)
formula_meaning-short (Repeat c) x = counted_items-short (λ n. replicate n x) c (λ n. length-replicate n x)
formula_meaning-short UpTo x = counted_items-short numbers_up_to x length-numbers_up_to
formula_meaning-short f x = single_item-short (mapped_element x (outcome f x))
