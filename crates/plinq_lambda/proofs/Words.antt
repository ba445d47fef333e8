-- A formula is found by its words, and what is found by words has these.
use Rattle.std.specs.Prelude.{◌≡◌, ℕ, ℤ, List, Option, Some, None, refl}
use Rattle.plinq_lambda.specs.declared.formula.Formula.{Formula}
use Rattle.plinq_lambda.specs.declared.formula.Formula.TheVariants.{Add, Mul, Mod, Into, Below, Above, Equal, Even, Repeat, UpTo}
use Rattle.plinq_words.proofs.FoundByName.{first_named-has}
use Rattle.plinq_lambda.specs.FormulaWords.{formula_name, formula_number, formula_named, formulas_of}

pub formula_named-own : (f : Formula) → formula_named (formula_number f) (formula_name f) ≡ Some f
formula_named-own (Add c) = refl
formula_named-own (Mul c) = refl
formula_named-own (Mod c) = refl
formula_named-own (Into c) = refl
formula_named-own (Below c) = refl
formula_named-own (Above c) = refl
formula_named-own (Equal c) = refl
formula_named-own Even = refl
formula_named-own (Repeat c) = refl
formula_named-own UpTo = refl

pub formula_named-has : (number : Option ℤ) (word : List ℕ) (f : Formula) → formula_named number word ≡ Some f
    → (word ≡ formula_name f) × (number ≡ formula_number f)
formula_named-has None word f is = first_named-has (λ g. None ≡ formula_number g) formula_name (formulas_of None) word f (refl, (refl, tt)) is
formula_named-has (Some c) word f is =
    first_named-has (λ g. Some c ≡ formula_number g) formula_name (formulas_of (Some c)) word f
    (refl, (refl, (refl, (refl, (refl, (refl, (refl, (refl, tt))))))))
    is
