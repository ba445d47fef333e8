-- By key: which operators a worker can apply to elements of which it knows the keys, and what is left of them at a key.
use Rattle.std.specs.Prelude.{◌≡◌, refl, ℕ, ◌-◌, ℤ, pos, List, [], ◌∷◌, Bool, true, false, ◌&&◌, if◌then◌else◌, Option, Some, None}
use Rattle.std.specs.List.{list_all}
use Rattle.plinq_lambda.specs.Meaning.{Meaning}
use Rattle.plinq_ops.specs.declared.op.Op.{Op}
use Rattle.plinq_ops.specs.declared.op.Op.TheVariants.{Select, Filter, SelectMany, Take, Skip, TakeWhile, AsUnordered}
use Rattle.plinq_ops.specs.declared.known.Known.{Known}
use Rattle.plinq_ops.specs.declared.known.Known.TheVariants.{Nothing, Key, Position}
use Rattle.plinq_ops.specs.Stage.{Stage, taking, skipping}
use Rattle.plinq_ops.specs.Operator.{item_count, counted_off, stage_left, needed, keeps_count, example}
use Rattle.plinq_ops.specs.Fragment.{position_after}

-- the order of the elements is known
abbrev pub knows_order : Known → Bool
knows_order Nothing = false
knows_order Key = true
knows_order Position = true

-- whether the position of an element is known
abbrev pub knows_position : Known → Bool
knows_position Nothing = false
knows_position Key = false
knows_position Position = true

-- whether a worker that knows so much knows what is needed
abbrev pub suffices : Known → Option Known → Bool
suffices known None = false
suffices known (Some Nothing) = true
suffices known (Some Key) = knows_order known
suffices known (Some Position) = knows_position known

-- whether a worker that knows so much can apply an operator
abbrev pub can_apply : {L : Type 0} → Known → Op L → Bool
can_apply known op = suffices known (needed op)

-- the operator looks neither at keys nor at the order of its elements
abbrev pub is_keyless : {L : Type 0} → Op L → Bool
is_keyless op = can_apply Nothing op

abbrev pub are_keyless : {L : Type 0} → List (Op L) → Bool
are_keyless ops = list_all is_keyless ops

-- what is known of elements whose positions aren't
abbrev pub without_position : Known → Known
without_position Nothing = Nothing
without_position Key = Key
without_position Position = Key

-- what is known of the elements after an operator
abbrev pub known_after : {L : Type 0} → Known → Op L → Known
known_after known op = if keeps_count op then known else without_position known

abbrev pub is_by_key_from : {L : Type 0} → Known → List (Op L) → Bool
is_by_key_from known [] = true
is_by_key_from known (op ∷ ops) = can_apply known op && is_by_key_from (known_after known op) ops

-- whether a worker can apply all the operators to elements whose keys are their positions
abbrev pub is_by_key : {L : Type 0} → List (Op L) → Bool
is_by_key ops = is_by_key_from Position ops

-- what is left of the operators at a position, all elements before it having reached them
abbrev pub left_at : {L T : Type 0} → (L → Meaning T) → List (Op L) → ℤ → List (Stage T)
left_at meaning [] p = []
left_at meaning (op ∷ ops) p =
    stage_left meaning op (counted_off op - item_count p) ∷ left_at meaning ops (position_after op p)

-- how many elements have got past an operator, where so many have reached it and none was filtered out
abbrev pub passed_on : {L : Type 0} → Op L → ℕ → ℕ
passed_on (Skip k) n = n - item_count k
passed_on op n = n

-- what is left of the operators, so many elements having reached the first of them
abbrev pub stages_at : {L T : Type 0} → (L → Meaning T) → List (Op L) → ℕ → List (Stage T)
stages_at meaning [] n = []
stages_at meaning (op ∷ ops) n = stage_left meaning op (counted_off op - n) ∷ stages_at meaning ops (passed_on op n)

-- Take and Skip go by key in any order, while nothing before them can change how many elements there are
take_by_key : is_by_key {L = ℕ} (Skip (pos 1) ∷ Select 0 ∷ TakeWhile 0 ∷ Take (pos 2) ∷ Skip (pos 1) ∷ Filter 0 ∷ TakeWhile 0 ∷ []) ≡ true
take_by_key = refl

take_after_a_filter : is_by_key {L = ℕ} (Filter 0 ∷ Take (pos 2) ∷ []) ≡ false
take_after_a_filter = refl

skip_after_an_expansion : is_by_key {L = ℕ} (SelectMany 0 ∷ Skip (pos 2) ∷ []) ≡ false
skip_after_an_expansion = refl

as_unordered_by_key : is_by_key {L = ℕ} (AsUnordered ∷ []) ≡ false
as_unordered_by_key = refl

-- two elements past a Skip of 3 and a Take of 1 nothing was taken yet
before_the_skip_ends : stages_at {L = ℕ} (λ _. example) (Skip (pos 3) ∷ Take (pos 1) ∷ []) 2 ≡ skipping 1 ∷ taking 1 ∷ []
before_the_skip_ends = refl

-- a Skip after another counts from the position after it
after_two_skips : stages_at {L = ℕ} (λ _. example) (Skip (pos 1) ∷ Skip (pos 2) ∷ Take (pos 4) ∷ []) 4 ≡ skipping 0 ∷ skipping 0 ∷ taking 3 ∷ []
after_two_skips = refl

left_before_the_skip_ends : left_at {L = ℕ} (λ _. example) (Skip (pos 3) ∷ Take (pos 1) ∷ []) (pos 2) ≡ skipping 1 ∷ taking 1 ∷ []
left_before_the_skip_ends = refl
