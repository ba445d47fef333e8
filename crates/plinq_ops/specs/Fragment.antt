-- Fragments: what the worker part gives for one keyed element, and how fragments glue together.
use Rattle.std.specs.Prelude.{◌≡◌, refl, ℕ, ◌+◌, ℤ, pos, ◌-ℤ◌, int_lt, List, [], ◌∷◌, if◌then◌else◌, Option}
use Rattle.plinq_source.specs.declared.ending.Ending.{Ending}
use Rattle.plinq_source.specs.declared.ending.Ending.TheVariants.{End, Refused, Fault}
use Rattle.plinq_source.specs.Trace.{Trace, open_trace, ended_trace, followed_by}
use Rattle.plinq_lambda.specs.Meaning.{Meaning}
use Rattle.plinq_ops.specs.declared.op.Op.{Op}
use Rattle.plinq_ops.specs.declared.op.Op.TheVariants.{Select, Take, Skip, TakeWhile}
use Rattle.plinq_ops.specs.Stage.{apply}
use Rattle.plinq_ops.specs.Operator.{stage_of, item_count, example}

-- an open trace that ends here after all
abbrev pub ended_here : {T : Type 0} → Trace T → Trace T
ended_here t = followed_by t (ended_trace [] End)

-- Take at a position: nothing and End after the first n, and the n-th ends the run after itself
abbrev pub taken_at : {T : Type 0} → ℤ → ℤ → Trace T → Trace T
taken_at n p t =
    if int_lt p n then (if int_lt p (n -ℤ pos 1) then t else ended_here t) else ended_trace [] End

-- Skip at a position: no items before it has passed n
abbrev pub skipped_at : {T : Type 0} → ℤ → ℤ → Trace T → Trace T
skipped_at n p t = if int_lt p n then record { items = []; ending = t.ending } else t

-- an operator on what it sees of the element at a position
abbrev pub apply_at : {L T : Type 0} → (L → Meaning T) → Op L → ℤ → Trace T → Trace T
apply_at meaning (Take n) p t = taken_at (pos (item_count n)) p t
apply_at meaning (Skip n) p t = skipped_at (pos (item_count n)) p t
apply_at meaning op p t = apply (stage_of meaning op) t

-- the position after an operator: a Skip of n moves it back by n, also below 0
abbrev pub position_after : {L : Type 0} → Op L → ℤ → ℤ
position_after (Skip n) p = p -ℤ pos (item_count n)
position_after op p = p

-- the operators one after another on what they see of the element at a position
abbrev pub fragment_at : {L T : Type 0} → (L → Meaning T) → List (Op L) → ℤ → Trace T → Trace T
fragment_at meaning [] p t = t
fragment_at meaning (op ∷ ops) p t = fragment_at meaning ops (position_after op p) (apply_at meaning op p t)

-- what the worker part gives for the element of a key
abbrev pub fragment_of : {L T : Type 0} → (L → Meaning T) → List (Op L) → ℕ → T → Trace T
fragment_of meaning worker key x = fragment_at meaning worker (pos key) (open_trace (x ∷ []))

-- the fragments of items whose keys count up from here, up to and with the first that ends the run, else the ending
abbrev pub glued_trace : {L T : Type 0} → (L → Meaning T) → List (Op L) → ℕ → List T → Option Ending → Trace T
glued_trace meaning worker key [] e = record { items = []; ending = e }
glued_trace meaning worker key (x ∷ xs) e = followed_by (fragment_of meaning worker key x) (glued_trace meaning worker (key + 1) xs e)

-- the glued fragments of a whole trace
abbrev pub glue : {L T : Type 0} → (L → Meaning T) → List (Op L) → Trace T → Trace T
glue meaning worker t = glued_trace meaning worker 0 t.items t.ending

abbrev example_fragment : List (Op ℕ) → ℕ → ℕ → Trace ℕ
example_fragment worker key x = fragment_of (λ _. example) worker key x

-- skip 1, take 2: the element of key 0 is passed over, and that of key 2 is the last
passed_over : example_fragment (Skip (pos 1) ∷ Take (pos 2) ∷ Select 0 ∷ []) 0 4 ≡ open_trace []
passed_over = refl

first_taken : example_fragment (Skip (pos 1) ∷ Take (pos 2) ∷ Select 0 ∷ []) 1 5 ≡ open_trace (4 ∷ [])
first_taken = refl

last_taken : example_fragment (Skip (pos 1) ∷ Take (pos 2) ∷ Select 0 ∷ []) 2 6 ≡ ended_trace (5 ∷ []) End
last_taken = refl

after_the_last : example_fragment (Skip (pos 1) ∷ Take (pos 2) ∷ Select 0 ∷ []) 3 7 ≡ ended_trace [] End
after_the_last = refl

-- before the Skip has passed its number the position is below 0, where a Take is far from its last
before_the_first : example_fragment (Skip (pos 1) ∷ Take (pos 1) ∷ []) 0 5 ≡ open_trace []
before_the_first = refl

-- neither a Skip nor a Take hides a fault
fault_passed_over : example_fragment (Select 0 ∷ Skip (pos 1) ∷ []) 0 0 ≡ ended_trace [] (Fault 1)
fault_passed_over = refl

fault_of_the_last : example_fragment (Select 0 ∷ Take (pos 1) ∷ []) 0 0 ≡ ended_trace [] (Fault 1)
fault_of_the_last = refl

-- a TakeWhile and a Take leave the positions as they are
after_a_take_while : example_fragment (TakeWhile 0 ∷ Take (pos 2) ∷ []) 1 2 ≡ ended_trace (2 ∷ []) End
after_a_take_while = refl

after_a_take : example_fragment (Take (pos 3) ∷ Skip (pos 1) ∷ []) 1 5 ≡ open_trace (5 ∷ [])
after_a_take = refl

-- the element of key 0 is the first: it alone is taken, and the refusal isn't reached
glued_to_the_last : glue {L = ℕ} (λ _. example) (Take (pos 1) ∷ []) (ended_trace (4 ∷ 5 ∷ []) (Refused 7)) ≡ ended_trace (4 ∷ []) End
glued_to_the_last = refl

-- a Take of more than there are leaves the refusal
glued_to_the_refusal : glue {L = ℕ} (λ _. example) (Take (pos 3) ∷ []) (ended_trace (4 ∷ 5 ∷ []) (Refused 7)) ≡ ended_trace (4 ∷ 5 ∷ []) (Refused 7)
glued_to_the_refusal = refl

-- the fragments after a fault are dropped, and so is the ending
glued_to_a_fault : glue {L = ℕ} (λ _. example) (Select 0 ∷ []) (ended_trace (5 ∷ 0 ∷ 2 ∷ []) (Refused 7)) ≡ ended_trace (4 ∷ []) (Fault 1)
glued_to_a_fault = refl
