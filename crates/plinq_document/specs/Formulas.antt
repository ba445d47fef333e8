-- The formulas of a document.
use Rattle.std.specs.Prelude.{ℕ, List, Option, Some, None, option_and_then}
use Rattle.serde_json.specs.Data.{Items, no_items, item}
use Rattle.serde_json.specs.Find.{as_str}
use Rattle.plinq_document.specs.JsonValues.{only_whole_number}
use Rattle.plinq_lambda.specs.declared.formula.Formula.{Formula}
use Rattle.plinq_lambda.specs.declared.formula.Formula.TheVariants.{Add, Mul, Mod, Into, Below, Above, Equal, Even, Repeat, UpTo}
use Rattle.plinq_lambda.specs.FormulaWords.{formula_named}
use Rattle.plinq_document.specs.declared.version.Version.{Version}
use Rattle.plinq_document.specs.declared.version.Version.TheVariants.{One}

-- the formula of a name and of the items after it: no item, or one that is a whole number
abbrev pub formula_from : Items → List ℕ → Option Formula
formula_from no_items word = formula_named None word
formula_from (item c rest) word = option_and_then (λ n. formula_named (Some n) word) (only_whole_number (item c rest))

-- the formula of a step's items after its name
abbrev pub formula_of : Items → Option Formula
formula_of no_items = None
formula_of (item word rest) = option_and_then (formula_from rest) (as_str word)

-- the version with which a formula came
abbrev pub formula_since : Formula → Version
formula_since (Add c) = One
formula_since (Mul c) = One
formula_since (Mod c) = One
formula_since (Into c) = One
formula_since (Below c) = One
formula_since (Above c) = One
formula_since (Equal c) = One
formula_since Even = One
formula_since (Repeat c) = One
formula_since UpTo = One
