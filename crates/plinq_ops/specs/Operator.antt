-- The operators of a query, by what they do to a trace and by their words.
use Rattle.std.specs.Prelude.{◌≡◌, refl, zero, suc, nat_lt, replicate, ℕ, ℤ, pos, negsuc, List, [], ◌∷◌, Bool, true, false}
use Rattle.std.specs.Prelude.{Option, Some, None, Result, Ok, Err, map, codes}
use Rattle.plinq_source.specs.declared.ending.Ending.TheVariants.{End, Refused, Fault}
use Rattle.plinq_source.specs.Trace.{Trace, open_trace, ended_trace}
use Rattle.plinq_lambda.specs.Meaning.{Meaning}
use Rattle.plinq_lambda.specs.declared.formula.Formula.{Formula}
use Rattle.plinq_words.specs.Named.{first_named}
use Rattle.plinq_ops.specs.declared.argument.Argument.{Argument}
use Rattle.plinq_ops.specs.declared.argument.Argument.TheVariants.{Nothing as NoArgument, Formula as FormulaArgument, Number}
use Rattle.plinq_ops.specs.declared.op.Op.{Op}
use Rattle.plinq_ops.specs.declared.op.Op.TheVariants.{Select, Filter, SelectMany, Take, Skip, TakeWhile, SkipWhile, AsUnordered}
use Rattle.plinq_ops.specs.declared.known.Known.{Known}
use Rattle.plinq_ops.specs.declared.known.Known.TheVariants.{Nothing, Key, Position}
use Rattle.plinq_ops.specs.declared.stage_state.StageState.{StageState}
use Rattle.plinq_ops.specs.declared.stage_state.StageState.TheVariants.{Mapping, Filtering, Expanding, Taking, Skipping, TakingWhile, SkippingWhile, Unchanged}
use Rattle.plinq_ops.specs.Stage.{Stage, pieces, taking, skipping, skipping_while, unchanged, apply}

-- Select: the mapped item; a fault ends the answer
abbrev pub selected_piece : {T : Type 0} → Result T ℕ → Trace T
selected_piece (Ok y) = open_trace (y ∷ [])
selected_piece (Err code) = ended_trace [] (Fault code)

-- Where: the item if it passes; a fault ends the answer
abbrev pub filtered_piece : {T : Type 0} → Result Bool ℕ → T → Trace T
filtered_piece (Ok true) x = open_trace (x ∷ [])
filtered_piece (Ok false) x = open_trace []
filtered_piece (Err code) x = ended_trace [] (Fault code)

-- SelectMany: the expansion; one that faults adds nothing and ends the answer
abbrev pub selected_many : {T : Type 0} → Result (List T) ℕ → Trace T
selected_many (Ok ys) = open_trace ys
selected_many (Err code) = ended_trace [] (Fault code)

-- TakeWhile: the item if it passes; one that fails ends the answer, and so does a fault
abbrev pub taken_while : {T : Type 0} → Result Bool ℕ → T → Trace T
taken_while (Ok true) x = open_trace (x ∷ [])
taken_while (Ok false) x = ended_trace [] End
taken_while (Err code) x = ended_trace [] (Fault code)

-- how many items a Take or a Skip speaks of: a negative number is none
abbrev pub item_count : ℤ → ℕ
item_count (pos n) = n
item_count (negsuc n) = 0

-- what an operator does, given what its lambda means
abbrev pub stage_of : {L T : Type 0} → (L → Meaning T) → Op L → Stage T
stage_of meaning (Select f) = pieces (λ x. selected_piece ((meaning f).map x))
stage_of meaning (Filter f) = pieces (λ x. filtered_piece ((meaning f).test x) x)
stage_of meaning (SelectMany f) = pieces (λ x. selected_many ((meaning f).expand x))
stage_of meaning (Take n) = taking (item_count n)
stage_of meaning (Skip n) = skipping (item_count n)
stage_of meaning (TakeWhile f) = pieces (λ x. taken_while ((meaning f).test x) x)
stage_of meaning (SkipWhile f) = skipping_while (meaning f).test
stage_of meaning AsUnordered = unchanged

-- what the operators do, one after another
abbrev pub stages_of : {L T : Type 0} → (L → Meaning T) → List (Op L) → List (Stage T)
stages_of meaning ops = map (stage_of meaning) ops

-- what an operator does that some items may have reached
abbrev pub state_stage : {L T : Type 0} → (L → Meaning T) → StageState L → Stage T
state_stage meaning (Mapping f) = stage_of meaning (Select f.now)
state_stage meaning (Filtering f) = stage_of meaning (Filter f.now)
state_stage meaning (Expanding f) = stage_of meaning (SelectMany f.now)
state_stage meaning (Taking n) = taking n
state_stage meaning (Skipping n) = skipping n
state_stage meaning (TakingWhile f) = stage_of meaning (TakeWhile f.now)
state_stage meaning (SkippingWhile f) = stage_of meaning (SkipWhile f.now)
state_stage meaning Unchanged = unchanged

-- how many items a Take or a Skip counts off; the others count none
abbrev pub counted_off : {L : Type 0} → Op L → ℕ
counted_off (Take n) = item_count n
counted_off (Skip n) = item_count n
counted_off op = 0

-- what an operator that goes by key still does, where so much is left to count off
abbrev pub stage_left : {L T : Type 0} → (L → Meaning T) → Op L → ℕ → Stage T
stage_left meaning (Take n) count = taking count
stage_left meaning (Skip n) count = skipping count
stage_left meaning op count = stage_of meaning op

-- what a worker must know of the elements that reach an operator to apply it: TakeWhile needs their order, Take and Skip
-- their positions; no worker can apply SkipWhile, since the first that fails may be another's, nor AsUnordered, which
-- gives the order up
abbrev pub needed : {L : Type 0} → Op L → Option Known
needed (Select f) = Some Nothing
needed (Filter f) = Some Nothing
needed (SelectMany f) = Some Nothing
needed (Take n) = Some Position
needed (Skip n) = Some Position
needed (TakeWhile f) = Some Key
needed (SkipWhile f) = None
needed AsUnordered = None

-- whether the key of an element says how many elements an operator has given before it
abbrev pub keeps_count : {L : Type 0} → Op L → Bool
keeps_count (Filter f) = false
keeps_count (SelectMany f) = false
keeps_count op = true

-- ---- words: how a document and a plan name operators over formulas

-- the name of an operator
abbrev pub op_name : Op Formula → List ℕ
op_name (Select f) = codes "select"
op_name (Filter f) = codes "filter"
op_name (SelectMany f) = codes "select_many"
op_name (Take n) = codes "take"
op_name (Skip n) = codes "skip"
op_name (TakeWhile f) = codes "take_while"
op_name (SkipWhile f) = codes "skip_while"
op_name AsUnordered = codes "as_unordered"

-- what stands after the name
abbrev pub op_argument : Op Formula → Argument
op_argument (Select f) = FormulaArgument f
op_argument (Filter f) = FormulaArgument f
op_argument (SelectMany f) = FormulaArgument f
op_argument (Take n) = Number n
op_argument (Skip n) = Number n
op_argument (TakeWhile f) = FormulaArgument f
op_argument (SkipWhile f) = FormulaArgument f
op_argument AsUnordered = NoArgument

-- the operators after whose names this stands
abbrev pub ops_of : Argument → List (Op Formula)
ops_of NoArgument = AsUnordered ∷ []
ops_of (Number n) = Take n ∷ Skip n ∷ []
ops_of (FormulaArgument f) = Select f ∷ Filter f ∷ SelectMany f ∷ TakeWhile f ∷ SkipWhile f ∷ []

-- the operator with this after its name
abbrev pub op_named : Argument → List ℕ → Option (Op Formula)
op_named argument = first_named op_name (ops_of argument)

-- ---- rows

abbrev less_one : ℕ → Result ℕ ℕ
less_one zero = Err 1
less_one (suc n) = Ok n

-- a lambda on numbers for the rows below: the number less one, which faults with 1 at 0; whether it is below 3; as
-- many copies of it as it says
abbrev pub example : Meaning ℕ
example = record { map = less_one; test = λ x. Ok (nat_lt x 3); expand = λ x. Ok (replicate x x) }

abbrev example_stage : Op ℕ → Stage ℕ
example_stage op = stage_of (λ _. example) op

abbrev at_zero_fault : {A : Type 0} → (ℕ → A) → ℕ → Result A ℕ
at_zero_fault value zero = Err 1
at_zero_fault value (suc n) = Ok (value (suc n))

-- another, which does the same with each number but 0, where it faults with 1
abbrev faulting_at_zero : Meaning ℕ
faulting_at_zero = record { map = less_one; test = at_zero_fault (λ x. nat_lt x 3); expand = at_zero_fault (λ x. replicate x x) }

abbrev faulting_stage : Op ℕ → Stage ℕ
faulting_stage op = stage_of (λ _. faulting_at_zero) op

-- a mapping that faults ends the answer there
select_faults : apply (example_stage (Select 0)) (ended_trace (5 ∷ 0 ∷ 2 ∷ []) End) ≡ ended_trace (4 ∷ []) (Fault 1)
select_faults = refl

filter_keeps : apply (example_stage (Filter 0)) (ended_trace (5 ∷ 0 ∷ 2 ∷ []) (Refused 7)) ≡ ended_trace (0 ∷ 2 ∷ []) (Refused 7)
filter_keeps = refl

-- a test that faults ends the answer, and its item isn't kept
filter_faults : apply (faulting_stage (Filter 0)) (ended_trace (5 ∷ 2 ∷ 0 ∷ 1 ∷ []) End) ≡ ended_trace (2 ∷ []) (Fault 1)
filter_faults = refl

select_many_joins : apply (example_stage (SelectMany 0)) (ended_trace (2 ∷ 0 ∷ 1 ∷ []) End) ≡ ended_trace (2 ∷ 2 ∷ 1 ∷ []) End
select_many_joins = refl

-- an expansion that faults adds nothing
select_many_faults : apply (faulting_stage (SelectMany 0)) (ended_trace (2 ∷ 0 ∷ 1 ∷ []) (Refused 7)) ≡ ended_trace (2 ∷ 2 ∷ []) (Fault 1)
select_many_faults = refl

-- TakeWhile keeps nothing after the first that fails
take_while_stops : apply (example_stage (TakeWhile 0)) (ended_trace (1 ∷ 2 ∷ 9 ∷ 1 ∷ []) (Refused 7)) ≡ ended_trace (1 ∷ 2 ∷ []) End
take_while_stops = refl

take_while_faults : apply (faulting_stage (TakeWhile 0)) (ended_trace (1 ∷ 0 ∷ 2 ∷ []) End) ≡ ended_trace (1 ∷ []) (Fault 1)
take_while_faults = refl

-- SkipWhile tests nothing after the first that fails
skip_while_starts : apply (example_stage (SkipWhile 0)) (ended_trace (1 ∷ 2 ∷ 9 ∷ 1 ∷ []) (Refused 7)) ≡ ended_trace (9 ∷ 1 ∷ []) (Refused 7)
skip_while_starts = refl

skip_while_faults : apply (faulting_stage (SkipWhile 0)) (ended_trace (1 ∷ 0 ∷ 9 ∷ []) End) ≡ ended_trace [] (Fault 1)
skip_while_faults = refl

negative_take : example_stage (Take (negsuc 0)) ≡ taking 0
negative_take = refl

a_number_is_no_formula : op_named (Number (pos 5)) (codes "select") ≡ None
a_number_is_no_formula = refl
