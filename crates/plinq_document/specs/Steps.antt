-- The steps of a document's query.
use Rattle.std.specs.Prelude.{ℕ, ◌+◌, List, [], ◌∷◌, ◌++◌, Bool, true, ◌&&◌, if◌then◌else◌, Option, Some, None, Result, Ok, Err}
use Rattle.std.specs.Prelude.{option_map, option_and_then, codes}
use Rattle.std.specs.Option.{option_or}
use Rattle.serde_json.specs.Data.{Data, Items, no_items, item}
use Rattle.serde_json.specs.Find.{as_str, as_array}
use Rattle.plinq_lambda.specs.declared.formula.Formula.{Formula}
use Rattle.plinq_ops.specs.declared.argument.Argument.{Argument}
use Rattle.plinq_ops.specs.declared.argument.Argument.TheVariants.{Nothing, Formula as FormulaArgument, Number}
use Rattle.plinq_ops.specs.declared.op.Op.{Op}
use Rattle.plinq_ops.specs.declared.op.Op.TheVariants.{Select, Filter, SelectMany, Take, Skip, TakeWhile, SkipWhile, AsUnordered}
use Rattle.plinq_ops.specs.MergeWords.{merge_named}
use Rattle.plinq_ops.specs.Operator.{op_named}
use Rattle.plinq_ops.specs.Query.{QueryView, Built, with_order, with_option, with_degree_of}
use Rattle.plinq_words.specs.Tables.{beside}
use Rattle.plinq_document.specs.JsonValues.{only_whole_number, only_count, only_text}
use Rattle.plinq_document.specs.Formulas.{formula_of, formula_since}
use Rattle.plinq_document.specs.Results.{◌>>=◌}
use Rattle.plinq_document.specs.Versions.{has}
use Rattle.plinq_document.specs.declared.version.Version.{Version}
use Rattle.plinq_document.specs.declared.version.Version.TheVariants.{One, Two}
use Rattle.plinq_document.specs.declared.other_step.OtherStep.{OtherStep}
use Rattle.plinq_document.specs.declared.other_step.OtherStep.TheVariants.{AsOrdered, WithMerge, WithDegree}
use Rattle.plinq_document.specs.declared.step_call.StepCall.{StepCall}
use Rattle.plinq_document.specs.declared.step_call.StepCall.TheVariants as call
use Rattle.plinq_document.specs.declared.doc_fault.StepFault.{StepFault}
use Rattle.plinq_document.specs.declared.doc_fault.StepFault.TheVariants.{Unknown, Build}
use Rattle.plinq_document.specs.declared.doc_fault.DocFault.{DocFault}
use Rattle.plinq_document.specs.declared.doc_fault.DocFault.TheVariants.{Step}

-- what stands after an operator's name: nothing, a whole number alone, or a formula
abbrev pub argument_of : Items → Option Argument
argument_of no_items = Some Nothing
argument_of (item d ds) = option_or (option_map Number (only_whole_number (item d ds))) (option_map FormulaArgument (formula_of (item d ds)))

-- the operator of a step, by its name and the items after that
abbrev pub op_from : List ℕ → Items → Option (Op Formula)
op_from word ds = option_and_then (λ a. op_named a word) (argument_of ds)

-- the steps that add no operator, by their names
abbrev pub other_steps : List (List ℕ × OtherStep)
other_steps =
    (codes "as_ordered", AsOrdered)
    ∷ (codes "with_merge", WithMerge)
    ∷ (codes "with_degree", WithDegree)
    ∷ []

-- the other step of this name
abbrev pub other_step_named : List ℕ → Option OtherStep
other_step_named = beside other_steps

-- the builder call of a step that has no items after its name
abbrev pub call_alone : StepCall → Items → Option StepCall
call_alone made no_items = Some made
call_alone made (item d ds) = None

-- the builder call of such a step, by the items after its name
abbrev pub other_call_of : OtherStep → Items → Option StepCall
other_call_of AsOrdered ds = call_alone call.AsOrdered ds
other_call_of WithMerge ds = option_map call.WithMerge (option_and_then merge_named (only_text ds))
other_call_of WithDegree ds = option_map call.WithDegree (only_count ds)

-- and by its name as well
abbrev pub other_call_from : List ℕ → Items → Option StepCall
other_call_from word ds = option_and_then (λ name. other_call_of name ds) (other_step_named word)

-- the builder call of a step, by its name and the items after that: an operator, or else another step
abbrev pub call_named : Items → List ℕ → Option StepCall
call_named ds word = option_or (option_map call.Operator (op_from word ds)) (other_call_from word ds)

-- the version with which an operator came
abbrev pub since : Op Formula → Version
since (Select f) = One
since (Filter f) = One
since (SelectMany f) = One
since (Take n) = One
since (Skip n) = One
since (TakeWhile f) = One
since (SkipWhile f) = Two
since AsUnordered = One

-- whether a version has an operator's formula, if the operator has one
abbrev pub has_formula : Version → Op Formula → Bool
has_formula version (Select f) = has version (formula_since f)
has_formula version (Filter f) = has version (formula_since f)
has_formula version (SelectMany f) = has version (formula_since f)
has_formula version (Take n) = true
has_formula version (Skip n) = true
has_formula version (TakeWhile f) = has version (formula_since f)
has_formula version (SkipWhile f) = has version (formula_since f)
has_formula version AsUnordered = true

-- whether a version has a step
abbrev pub has_step : Version → StepCall → Bool
has_step version call.AsOrdered = true
has_step version (call.Operator op) = has version (since op) && has_formula version op
has_step version (call.WithMerge option) = true
has_step version (call.WithDegree n) = true

-- a step, if the version has it
abbrev pub only_of : Version → StepCall → Option StepCall
only_of version made = if has_step version made then Some made else None

-- the builder call of a step that has these items
abbrev pub call_from : Version → Items → Option StepCall
call_from version no_items = None
call_from version (item name ds) = option_and_then (only_of version) (option_and_then (call_named ds) (as_str name))

-- the builder call of a step
abbrev pub call_of : Version → Data → Option StepCall
call_of version d = option_and_then (call_from version) (as_array d)

-- what a builder call answers: an operator is added after the others
abbrev pub call_result : QueryView Formula → StepCall → Built Formula
call_result q call.AsOrdered = with_order q
call_result q (call.Operator op) = Ok (record q { ops = q.ops ++ op ∷ [] })
call_result q (call.WithMerge option) = with_option q option
call_result q (call.WithDegree n) = with_degree_of q n

-- the query, or why it refused the call
abbrev pub without_query : Built Formula → Result (QueryView Formula) StepFault
without_query (Ok q) = Ok q
without_query (Err refused) = Err (Build refused.1)

-- the query with a step that may be unknown
abbrev pub with_known : QueryView Formula → Option StepCall → Result (QueryView Formula) StepFault
with_known q None = Err Unknown
with_known q (Some made) = without_query (call_result q made)

-- the query with a step, or why there is none
abbrev pub with_step_of : Version → QueryView Formula → Data → Result (QueryView Formula) StepFault
with_step_of version q d = with_known q (call_of version d)

-- the query, or the place of the step that is refused
abbrev pub step_result : ℕ → Result (QueryView Formula) StepFault → Result (QueryView Formula) DocFault
step_result at (Ok q) = Ok q
step_result at (Err why) = Err (Step at why)

-- the query with all the steps, of which the first has that place, or the first step that is refused
abbrev pub with_steps_of : Version → ℕ → QueryView Formula → Items → Result (QueryView Formula) DocFault
with_steps_of version at q no_items = Ok q
with_steps_of version at q (item d ds) = step_result at (with_step_of version q d) >>= λ new. with_steps_of version (at + 1) new ds
