-- The words by which a plan names formulas and operators, as the items of a step that has them.
use Rattle.std.specs.Prelude.{◌≡◌, ℤ, Option, Some, None, ⊤}
use Rattle.serde_json.specs.Data.{Items, no_items, item, string}
use Rattle.plinq_lambda.specs.declared.formula.Formula.{Formula}
use Rattle.plinq_lambda.specs.FormulaWords.{formula_name, formula_number}
use Rattle.plinq_ops.specs.declared.argument.Argument.{Argument}
use Rattle.plinq_ops.specs.declared.argument.Argument.TheVariants.{Nothing, Formula as FormulaArgument, Number}
use Rattle.plinq_ops.specs.declared.op.Op.{Op}
use Rattle.plinq_ops.specs.Operator.{op_name, op_argument}
use Rattle.plinq_document.specs.JsonValues.{only_whole_number}
use Rattle.plinq_document.specs.declared.step_call.StepCall.{StepCall}
use Rattle.plinq_document.specs.declared.step_call.StepCall.TheVariants as call

-- a number that may be there: no item, or one that is it
abbrev pub NumberItems : Option ℤ → Items → Type 0
NumberItems None no_items = ⊤
NumberItems None (item d ds) = ⊥
NumberItems (Some c) ds = only_whole_number ds ≡ Some c

-- a formula: its name, and its number
abbrev pub FormulaItems : Formula → Items → Type 0
FormulaItems f no_items = ⊥
FormulaItems f (item word ds) = (word ≡ string (formula_name f)) × NumberItems (formula_number f) ds

-- what stands after an operator's name
abbrev pub ArgumentItems : Argument → Items → Type 0
ArgumentItems Nothing ds = NumberItems None ds
ArgumentItems (Number n) ds = NumberItems (Some n) ds
ArgumentItems (FormulaArgument f) ds = FormulaItems f ds

-- an operator: its name, and what stands after it
abbrev pub OpItems : Op Formula → Items → Type 0
OpItems op no_items = ⊥
OpItems op (item word ds) = (word ≡ string (op_name op)) × ArgumentItems (op_argument op) ds

-- the operator that a step's call adds, if it adds one
abbrev pub op_of_call : StepCall → Option (Op Formula)
op_of_call call.AsOrdered = None
op_of_call (call.Operator op) = Some op
op_of_call (call.WithMerge option) = None
op_of_call (call.WithDegree n) = None
