-- The words of formulas: how a document and a plan name them.
use Rattle.std.specs.Prelude.{◌≡◌, refl, ℕ, ℤ, pos, List, [], ◌∷◌, Option, Some, None, codes}
use Rattle.plinq_lambda.specs.declared.formula.Formula.{Formula}
use Rattle.plinq_lambda.specs.declared.formula.Formula.TheVariants.{Add, Mul, Mod, Into, Below, Above, Equal, Even, Repeat, UpTo}
use Rattle.plinq_words.specs.Named.{first_named}

-- the name of a formula
abbrev pub formula_name : Formula → List ℕ
formula_name (Add c) = codes "add"
formula_name (Mul c) = codes "mul"
formula_name (Mod c) = codes "mod"
formula_name (Into c) = codes "into"
formula_name (Below c) = codes "below"
formula_name (Above c) = codes "above"
formula_name (Equal c) = codes "equal"
formula_name Even = codes "even"
formula_name (Repeat c) = codes "repeat"
formula_name UpTo = codes "up_to"

-- the number after the name
abbrev pub formula_number : Formula → Option ℤ
formula_number (Add c) = Some c
formula_number (Mul c) = Some c
formula_number (Mod c) = Some c
formula_number (Into c) = Some c
formula_number (Below c) = Some c
formula_number (Above c) = Some c
formula_number (Equal c) = Some c
formula_number Even = None
formula_number (Repeat c) = Some c
formula_number UpTo = None

-- the formulas that have this number, or none
abbrev pub formulas_of : Option ℤ → List Formula
formulas_of None = Even ∷ UpTo ∷ []
formulas_of (Some c) = Add c ∷ Mul c ∷ Mod c ∷ Into c ∷ Below c ∷ Above c ∷ Equal c ∷ Repeat c ∷ []

-- the formula of this number and name
abbrev pub formula_named : Option ℤ → List ℕ → Option Formula
formula_named number = first_named formula_name (formulas_of number)

-- rows

a_number_is_wanted : formula_named None (codes "add") ≡ None
a_number_is_wanted = refl

no_number_is_wanted : formula_named (Some (pos 1)) (codes "even") ≡ None
no_number_is_wanted = refl

a_name_is_whole : formula_named (Some (pos 1)) (codes "ad") ≡ None
a_name_is_whole = refl
