-- What a plan prints is read as itself, and what is read is printed by the same words.
use Rattle.std.specs.Prelude.{◌≡◌, ℕ, ℤ, List, Option, Some, None, IfSome, true, if◌then◌else◌, option_map, option_and_then, refl}
use Rattle.std.specs.Option.{option_or}
use Rattle.std.proofs.Common.{ap, sym, ◌∙◌, subst}
use Rattle.serde_json.specs.Data.{Data, null, boolean, number, string, array, object, Items, no_items, item}
use Rattle.plinq_lambda.specs.declared.formula.Formula.{Formula}
use Rattle.plinq_lambda.specs.FormulaWords.{formula_name, formula_number, formula_named}
use Rattle.plinq_lambda.proofs.Words.{formula_named-own, formula_named-has}
use Rattle.plinq_ops.specs.declared.argument.Argument.{Argument}
use Rattle.plinq_ops.specs.declared.argument.Argument.TheVariants.{Nothing, Formula as FormulaArgument, Number}
use Rattle.plinq_ops.specs.declared.op.Op.{Op}
use Rattle.plinq_ops.specs.declared.op.Op.TheVariants.{Select, Filter, SelectMany, Take, Skip, TakeWhile, SkipWhile, AsUnordered}
use Rattle.plinq_ops.specs.MergeWords.{merge_named}
use Rattle.plinq_ops.specs.Operator.{op_name, op_argument, op_named}
use Rattle.plinq_ops.proofs.Operators.{op_named-own, op_named-has}
use Rattle.plinq_document.specs.JsonValues.{only_whole_number, only_count, only_text}
use Rattle.plinq_document.specs.Formulas.{formula_of, formula_from}
use Rattle.plinq_document.specs.Steps.{argument_of, op_from, other_step_named, other_call_of, other_call_from, call_alone, call_named}
use Rattle.plinq_document.specs.Steps.{has_formula, only_of, call_from}
use Rattle.plinq_document.specs.Printed.{NumberItems, FormulaItems, ArgumentItems, OpItems, op_of_call}
use Rattle.plinq_document.specs.declared.version.Version.TheVariants.{One, Two}
use Rattle.plinq_document.specs.declared.other_step.OtherStep.{OtherStep}
use Rattle.plinq_document.specs.declared.other_step.OtherStep.TheVariants.{AsOrdered, WithMerge, WithDegree}
use Rattle.plinq_document.specs.declared.step_call.StepCall.{StepCall}
use Rattle.plinq_document.specs.declared.step_call.StepCall.TheVariants as call

-- ---- formulas

formula_from-number : (n : Option ℤ) (word : List ℕ) (ds : Items) → NumberItems n ds → formula_from ds word ≡ formula_named n word
formula_from-number None word no_items h = refl
formula_from-number None word (item d ds) h = absurd h
formula_from-number (Some c) word no_items h = cc
formula_from-number (Some c) word (item d ds) h = ap (option_and_then (λ n. formula_named (Some n) word)) h

-- a formula's printed words are read as it
pub formula_of-printed : (f : Formula) (ds : Items) → FormulaItems f ds → formula_of ds ≡ Some f
formula_of-printed f no_items h = absurd h
formula_of-printed f (item word ds) h =
    ap (λ (w : Data). formula_of (item w ds)) h.0
    ∙ formula_from-number (formula_number f) (formula_name f) ds h.1
    ∙ formula_named-own f

formula_from-read : (word : List ℕ) (ds : Items) (f : Formula) → formula_from ds word ≡ Some f → FormulaItems f (item (string word) ds)
formula_from-read word no_items f is =
    let has = formula_named-has None word f is in
    (ap string has.0, subst (λ (n : Option ℤ). NumberItems n no_items) has.1 tt)
formula_from-read word (item d ds) f is = go (only_whole_number (item d ds)) refl is
  where
    go : (o : Option ℤ) → only_whole_number (item d ds) ≡ o → option_and_then (λ n. formula_named (Some n) word) o ≡ Some f
        → FormulaItems f (item (string word) (item d ds))
    go None e found = cc
    go (Some c) e found =
        let has = formula_named-has (Some c) word f found in
        (ap string has.0, subst (λ (n : Option ℤ). NumberItems n (item d ds)) has.1 e)

-- no others are
pub formula_of-read : (f : Formula) (ds : Items) → formula_of ds ≡ Some f → FormulaItems f ds
formula_of-read f no_items is = cc
formula_of-read f (item null ds) is = cc
formula_of-read f (item (boolean b) ds) is = cc
formula_of-read f (item (number n) ds) is = cc
formula_of-read f (item (string word) ds) is = formula_from-read word ds f is
formula_of-read f (item (array es) ds) is = cc
formula_of-read f (item (object ms) ds) is = cc

-- ---- operators

-- a formula's words are no number
formula-no_number : (f : Formula) (ds : Items) → FormulaItems f ds → only_whole_number ds ≡ None
formula-no_number f no_items h = absurd h
formula-no_number f (item word no_items) h = ap (λ (w : Data). only_whole_number (item w no_items)) h.0
formula-no_number f (item word (item d ds)) h = refl

argument_of-printed : (a : Argument) (ds : Items) → ArgumentItems a ds → argument_of ds ≡ Some a
argument_of-printed Nothing no_items h = refl
argument_of-printed Nothing (item d ds) h = absurd h
argument_of-printed (Number n) no_items h = cc
argument_of-printed (Number n) (item d ds) h = ap (λ o. option_or (option_map Number o) (option_map FormulaArgument (formula_of (item d ds)))) h
argument_of-printed (FormulaArgument f) no_items h = absurd h
argument_of-printed (FormulaArgument f) (item d ds) h =
    ap (λ o. option_or (option_map Number o) (option_map FormulaArgument (formula_of (item d ds)))) (formula-no_number f (item d ds) h)
    ∙ ap (option_map FormulaArgument) (formula_of-printed f (item d ds) h)

argument_of-read : (a : Argument) (ds : Items) → argument_of ds ≡ Some a → ArgumentItems a ds
argument_of-read a no_items is =
    let same : Nothing ≡ a = cc in
    subst (λ (b : Argument). ArgumentItems b no_items) same tt
argument_of-read a (item d ds) is = go (only_whole_number (item d ds)) refl (formula_of (item d ds)) refl is
  where
    go : (o : Option ℤ) → only_whole_number (item d ds) ≡ o → (p : Option Formula) → formula_of (item d ds) ≡ p
        → option_or (option_map Number o) (option_map FormulaArgument p) ≡ Some a → ArgumentItems a (item d ds)
    go (Some n) e p e' found =
        let same : Number n ≡ a = cc in
        subst (λ (b : Argument). ArgumentItems b (item d ds)) same e
    go None e (Some f) e' found =
        let same : FormulaArgument f ≡ a = cc in
        subst (λ (b : Argument). ArgumentItems b (item d ds)) same (formula_of-read f (item d ds) e')
    go None e None e' found = cc

-- version 2 has every formula, and every step
has_formula-two : (op : Op Formula) → has_formula Two op ≡ true
has_formula-two (Select f) = refl
has_formula-two (Filter f) = refl
has_formula-two (SelectMany f) = refl
has_formula-two (Take n) = refl
has_formula-two (Skip n) = refl
has_formula-two (TakeWhile f) = refl
has_formula-two (SkipWhile f) = refl
has_formula-two AsUnordered = refl

only_of-two : (o : Option StepCall) → option_and_then (only_of Two) o ≡ o
only_of-two None = refl
only_of-two (Some call.AsOrdered) = refl
only_of-two (Some (call.Operator op)) = ap (λ b. if b then Some (call.Operator op) else None) (has_formula-two op)
only_of-two (Some (call.WithMerge option)) = refl
only_of-two (Some (call.WithDegree n)) = refl

-- an operator's printed words are read as the call that adds it
pub call_from-printed : (op : Op Formula) (ds : Items) → OpItems op ds → call_from Two ds ≡ Some (call.Operator op)
call_from-printed op no_items h = absurd h
call_from-printed op (item word ds) h =
    ap (λ (w : Data). call_from Two (item w ds)) h.0
    ∙ ap (λ o. option_and_then (only_of Two) (option_or (option_map call.Operator (option_and_then (λ a. op_named a (op_name op)) o))
    (other_call_from (op_name op) ds)))
    (argument_of-printed (op_argument op) ds h.1)
    ∙ ap (λ o. option_and_then (only_of Two) (option_or (option_map call.Operator o) (other_call_from (op_name op) ds))) (op_named-own op)
    ∙ only_of-two (Some (call.Operator op))

op_from-read : (word : List ℕ) (ds : Items) (op : Op Formula) → op_from word ds ≡ Some op → OpItems op (item (string word) ds)
op_from-read word ds op is = go (argument_of ds) refl is
  where
    go : (o : Option Argument) → argument_of ds ≡ o → option_and_then (λ a. op_named a word) o ≡ Some op → OpItems op (item (string word) ds)
    go None e found = cc
    go (Some a) e found =
        let has = op_named-has a word op found in
        (ap string has.0, argument_of-read (op_argument op) ds (e ∙ ap Some has.1))

-- ---- other steps add no operator

alone-no_op : (s : StepCall) (ds : Items) (c : StepCall) → op_of_call s ≡ None → call_alone s ds ≡ Some c → op_of_call c ≡ None
alone-no_op s no_items c none is = let same : s ≡ c = cc in subst (λ (x : StepCall). op_of_call x ≡ None) same none
alone-no_op s (item d ds) c none is = cc

mapped-no_op : {A : Type 0} (make : A → StepCall) (o : Option A) (c : StepCall) → ((x : A) → op_of_call (make x) ≡ None) → option_map make o ≡ Some c
    → op_of_call c ≡ None
mapped-no_op make None c none is = cc
mapped-no_op make (Some x) c none is = let same : make x ≡ c = cc in subst (λ (y : StepCall). op_of_call y ≡ None) same (none x)

other_call_of-no_op : (s : OtherStep) (ds : Items) (c : StepCall) → other_call_of s ds ≡ Some c → op_of_call c ≡ None
other_call_of-no_op AsOrdered ds c is = alone-no_op call.AsOrdered ds c refl is
other_call_of-no_op WithMerge ds c is = mapped-no_op call.WithMerge (option_and_then merge_named (only_text ds)) c (λ option. refl) is
other_call_of-no_op WithDegree ds c is = mapped-no_op call.WithDegree (only_count ds) c (λ n. refl) is

other_call_from-no_op : (word : List ℕ) (ds : Items) (c : StepCall) → other_call_from word ds ≡ Some c → op_of_call c ≡ None
other_call_from-no_op word ds c is = go (other_step_named word) is
  where
    go : (o : Option OtherStep) → option_and_then (λ s. other_call_of s ds) o ≡ Some c → op_of_call c ≡ None
    go None found = cc
    go (Some s) found = other_call_of-no_op s ds c found

abbrev Prints : StepCall → Items → Type 0
Prints c ds = IfSome (op_of_call c) (λ op. OpItems op ds)

call_named-read : (word : List ℕ) (ds : Items) (c : StepCall) → call_named ds word ≡ Some c → Prints c (item (string word) ds)
call_named-read word ds c is = go (op_from word ds) refl is
  where
    go : (o : Option (Op Formula)) → op_from word ds ≡ o → option_or (option_map call.Operator o) (other_call_from word ds) ≡ Some c
        → Prints c (item (string word) ds)
    go (Some op) e found =
        let same : call.Operator op ≡ c = cc in
        subst (λ (x : StepCall). Prints x (item (string word) ds)) same (op_from-read word ds op e)
    go None e found = rw (other_call_from-no_op word ds c found) tt

-- what is read as a call that adds an operator are its printed words
pub call_from-read : (ds : Items) (c : StepCall) → call_from Two ds ≡ Some c → Prints c ds
call_from-read no_items c is = cc
call_from-read (item null ds) c is = cc
call_from-read (item (boolean b) ds) c is = cc
call_from-read (item (number n) ds) c is = cc
call_from-read (item (string word) ds) c is = call_named-read word ds c (sym (only_of-two (call_named ds word)) ∙ is)
call_from-read (item (array es) ds) c is = cc
call_from-read (item (object ms) ds) c is = cc

-- version 1 reads what version 2 does, but for the steps that it doesn't have
pub call_from-first : (ds : Items) → call_from One ds ≡ option_and_then (only_of One) (call_from Two ds)
call_from-first no_items = refl
call_from-first (item null ds) = refl
call_from-first (item (boolean b) ds) = refl
call_from-first (item (number n) ds) = refl
call_from-first (item (string word) ds) = ap (option_and_then (only_of One)) (sym (only_of-two (call_named ds word)))
call_from-first (item (array es) ds) = refl
call_from-first (item (object ms) ds) = refl
