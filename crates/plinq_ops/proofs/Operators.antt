-- What is true of each operator, case by case.
use Rattle.std.specs.Prelude.{◌≡◌, ℕ, zero, suc, ℤ, pos, List, [], ◌∷◌, Bool, true, false, cond, Option, Some, None, Result, Ok, Err, refl}
use Rattle.std.proofs.Common.{arith}
use Rattle.std.proofs.lemmas.Bool.Decides.{nat_tests}
use Rattle.plinq_source.specs.declared.ending.Ending.{Ending}
use Rattle.plinq_source.specs.declared.ending.Ending.TheVariants.{End}
use Rattle.plinq_source.specs.Trace.{Trace, ended_trace, continued_by}
use Rattle.plinq_lambda.specs.Meaning.{Meaning}
use Rattle.plinq_lambda.specs.declared.formula.Formula.{Formula}
use Rattle.plinq_words.proofs.FoundByName.{Each, first_named-has}
use Rattle.plinq_ops.specs.declared.argument.Argument.{Argument}
use Rattle.plinq_ops.specs.declared.argument.Argument.TheVariants.{Nothing as NoArgument, Formula as FormulaArgument, Number}
use Rattle.plinq_ops.specs.declared.op.Op.{Op}
use Rattle.plinq_ops.specs.declared.op.Op.TheVariants.{Select, Filter, SelectMany, Take, Skip, TakeWhile, SkipWhile, AsUnordered}
use Rattle.plinq_ops.specs.declared.known.Known.TheVariants.{Nothing}
use Rattle.plinq_ops.specs.SkipWhile.{skipped_from, skipped_while}
use Rattle.plinq_ops.specs.Stage.{joined_pieces, apply, takes_none}
use Rattle.plinq_ops.specs.Operator.{selected_piece, filtered_piece, selected_many, taken_while, stage_of, counted_off, stage_left, op_name}
use Rattle.plinq_ops.specs.Operator.{op_argument, ops_of, op_named}
use Rattle.plinq_ops.specs.Feeding.{is_empty_take}
use Rattle.plinq_ops.specs.ByKey.{can_apply}
use Rattle.plinq_ops.specs.Fragment.{apply_at}
use Rattle.plinq_ops.specs.Chunk.{IsWorkerEnding}

-- before any item all of an operator is left
pub stage_left-counted_off : {L T : Type 0} (meaning : L → Meaning T) (op : Op L) → stage_left meaning op (counted_off op) ≡ stage_of meaning op
stage_left-counted_off meaning (Take n) = refl
stage_left-counted_off meaning op = refl

-- a Take of none is one that takes none
pub takes_none-stage_of : {L T : Type 0} (meaning : L → Meaning T) (op : Op L) → is_empty_take op ≡ takes_none (stage_of meaning op)
takes_none-stage_of meaning (Take (pos zero)) = refl
takes_none-stage_of meaning (Take (pos (suc n))) = grind (arith, nat_tests)
takes_none-stage_of meaning op = refl

-- ---- what a worker can apply never refuses

continued_by-ending : {T : Type 0} (xs : List T) (e : Option Ending) (t : Trace T) → IsWorkerEnding e → IsWorkerEnding t.ending
    → IsWorkerEnding (continued_by xs e t).ending
continued_by-ending xs None t first second = second
continued_by-ending xs (Some e) t first second = first

joined_pieces-ending : {T : Type 0} (piece : T → Trace T) (xs : List T) (e : Option Ending) → ((x : T) → IsWorkerEnding (piece x).ending) → IsWorkerEnding e
    → IsWorkerEnding (joined_pieces piece xs e).ending
joined_pieces-ending piece [] e each last = last
joined_pieces-ending piece (x ∷ xs) e each last =
    continued_by-ending (piece x).items (piece x).ending (joined_pieces piece xs e) (each x) (joined_pieces-ending piece xs e each last)

selected_piece-ending : {T : Type 0} (r : Result T ℕ) → IsWorkerEnding (selected_piece r).ending
selected_piece-ending (Ok y) = tt
selected_piece-ending (Err code) = tt

filtered_piece-ending : {T : Type 0} (r : Result Bool ℕ) (x : T) → IsWorkerEnding (filtered_piece r x).ending
filtered_piece-ending (Ok true) x = tt
filtered_piece-ending (Ok false) x = tt
filtered_piece-ending (Err code) x = tt

selected_many-ending : {T : Type 0} (r : Result (List T) ℕ) → IsWorkerEnding (selected_many r).ending
selected_many-ending (Ok ys) = tt
selected_many-ending (Err code) = tt

taken_while-ending : {T : Type 0} (r : Result Bool ℕ) (x : T) → IsWorkerEnding (taken_while r x).ending
taken_while-ending (Ok true) x = tt
taken_while-ending (Ok false) x = tt
taken_while-ending (Err code) x = tt

taken-ending : {T : Type 0} (b : Bool) (xs : List T) (t : Trace T) → IsWorkerEnding t.ending → IsWorkerEnding (cond b (ended_trace xs End) t).ending
taken-ending true xs t ending = tt
taken-ending false xs t ending = ending

skipped_from-ending : {T : Type 0} (r : Result Bool ℕ) (xs : List T) (e : Option Ending) (rest : Trace T) → IsWorkerEnding e → IsWorkerEnding rest.ending
    → IsWorkerEnding (skipped_from r xs e rest).ending
skipped_from-ending (Ok true) xs e rest ending others = others
skipped_from-ending (Ok false) xs e rest ending others = ending
skipped_from-ending (Err code) xs e rest ending others = tt

skipped_while-ending : {T : Type 0} (test : T → Result Bool ℕ) (xs : List T) (e : Option Ending) → IsWorkerEnding e
    → IsWorkerEnding (skipped_while test xs e).ending
skipped_while-ending test [] e ending = ending
skipped_while-ending test (x ∷ xs) e ending = skipped_from-ending (test x) (x ∷ xs) e (skipped_while test xs e) ending (skipped_while-ending test xs e ending)

pub apply-ending : {L T : Type 0} (meaning : L → Meaning T) (op : Op L) (count : ℕ) (t : Trace T) → IsWorkerEnding t.ending
    → IsWorkerEnding (apply (stage_left meaning op count) t).ending
apply-ending meaning (Select f) count t ending = joined_pieces-ending _ t.items t.ending (λ x. selected_piece-ending ((meaning f).map x)) ending
apply-ending meaning (Filter f) count t ending = joined_pieces-ending _ t.items t.ending (λ x. filtered_piece-ending ((meaning f).test x) x) ending
apply-ending meaning (SelectMany f) count t ending = joined_pieces-ending _ t.items t.ending (λ x. selected_many-ending ((meaning f).expand x)) ending
apply-ending meaning (Take n) count t ending = taken-ending _ _ t ending
apply-ending meaning (Skip n) count t ending = ending
apply-ending meaning (TakeWhile f) count t ending = joined_pieces-ending _ t.items t.ending (λ x. taken_while-ending ((meaning f).test x) x) ending
apply-ending meaning (SkipWhile f) count t ending = skipped_while-ending (meaning f).test t.items t.ending ending
apply-ending meaning AsUnordered count t ending = ending

-- an operator that looks at no key does the same at each
pub apply_at-keyless : {L T : Type 0} (meaning : L → Meaning T) (op : Op L) (p q : ℤ) (t : Trace T) → can_apply Nothing op ≡ true
    → apply_at meaning op p t ≡ apply_at meaning op q t
apply_at-keyless meaning (Take n) p q t keyless = absurd (let bad : false ≡ true = keyless in cc)
apply_at-keyless meaning (Skip n) p q t keyless = absurd (let bad : false ≡ true = keyless in cc)
apply_at-keyless meaning op p q t keyless = refl

-- ---- words

pub op_named-own : (op : Op Formula) → op_named (op_argument op) (op_name op) ≡ Some op
op_named-own (Select f) = refl
op_named-own op = refl

ops_of-argument : (argument : Argument) → Each (λ op. argument ≡ op_argument op) (ops_of argument)
ops_of-argument NoArgument = (refl, tt)
ops_of-argument (Number n) = (refl, (refl, tt))
ops_of-argument (FormulaArgument f) = (refl, (refl, (refl, (refl, (refl, tt)))))

pub op_named-has : (argument : Argument) (word : List ℕ) (op : Op Formula) → op_named argument word ≡ Some op
    → (word ≡ op_name op) × (argument ≡ op_argument op)
op_named-has argument word op is = first_named-has (λ o. argument ≡ op_argument o) op_name (ops_of argument) word op (ops_of-argument argument) is
