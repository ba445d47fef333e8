-- The words of operators, as their steps have them.
use Rattle.std.specs.Prelude.{◌≡◌, ℕ, ℤ, pos, negsuc, List, [], ◌∷◌, ◌++◌, Option, Some, None, codes, refl}
use Rattle.std.specs.List.{flat_map}
use Rattle.std.specs.Fmt.{digits}
use Rattle.plinq_lambda.specs.declared.formula.Formula.{Formula}
use Rattle.plinq_lambda.specs.declared.formula.Formula.TheVariants.{Add, Mul, Mod, Into, Below, Above, Equal, Even, Repeat, UpTo}
use Rattle.plinq_lambda.specs.FormulaWords.{formula_name, formula_number}
use Rattle.plinq_ops.specs.declared.argument.Argument.{Argument}
use Rattle.plinq_ops.specs.declared.argument.Argument.TheVariants.{Nothing, Formula as FormulaArgument, Number}
use Rattle.plinq_ops.specs.declared.op.Op.{Op}
use Rattle.plinq_ops.specs.declared.op.Op.TheVariants.{Select, Filter, SelectMany, Take, Skip, TakeWhile, SkipWhile, AsUnordered}
use Rattle.plinq_ops.specs.Operator.{op_name, op_argument}
use Rattle.plinq_lines.specs.AnswerText.{further_number}

-- a name, and the number after it if there is one
abbrev pub name_words : List ℕ → Option ℤ → List ℕ
name_words name None = name
name_words name (Some n) = name ++ further_number n

-- the words of a formula: a space, its name, and its number if it has one
abbrev pub formula_words : Formula → List ℕ
formula_words f = 32 ∷ name_words (formula_name f) (formula_number f)

-- the words of what stands after an operator's name
abbrev pub argument_words : Argument → List ℕ
argument_words Nothing = []
argument_words (FormulaArgument f) = formula_words f
argument_words (Number n) = further_number n

-- an operator: its name, and what stands after it
abbrev pub op_words : Op Formula → List ℕ
op_words op = op_name op ++ argument_words (op_argument op)

-- an operator after another: a comma and a space, and its words
abbrev pub further_op : Op Formula → List ℕ
further_op op = codes ", " ++ op_words op

-- operators in order, or none
abbrev pub part_words : List (Op Formula) → List ℕ
part_words [] = codes "none"
part_words (op ∷ ops) = op_words op ++ flat_map further_op ops

-- ---- worked rows

pub add_one : part_words (Select (Add (pos 1)) ∷ []) ≡ codes "select add 1"
unfolding digits
add_one = refl

pub three_ops : part_words (Take (pos 5) ∷ Filter Even ∷ Take (pos 2) ∷ []) ≡ codes "take 5, filter even, take 2"
unfolding digits
three_ops = refl

pub every_formula : flat_map formula_words (
    Add (pos 1) ∷ Mul (pos 2) ∷ Mod (pos 3) ∷ Into (pos 4) ∷ Below (pos 5) ∷ Above (pos 6) ∷ Equal (pos 7) ∷ Even ∷ Repeat (pos 8) ∷ UpTo ∷ [])
    ≡ codes " add 1 mul 2 mod 3 into 4 below 5 above 6 equal 7 even repeat 8 up_to"
unfolding digits
every_formula = refl

pub every_operator : part_words (
    Select Even ∷ Filter Even ∷ SelectMany Even ∷ Take (pos 1) ∷ Skip (negsuc 0) ∷ TakeWhile Even ∷ SkipWhile (Below (pos 5)) ∷ AsUnordered ∷ [])
    ≡ codes "select even, filter even, select_many even, take 1, skip -1, take_while even, skip_while below 5, as_unordered"
unfolding digits
every_operator = refl
