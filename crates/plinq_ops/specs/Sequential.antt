-- What a query answers on one thread, and how much of its source that takes.
use Rattle.std.specs.Prelude.{◌≡◌, ℕ, ◌-◌, ◌<◌, ◌≤◌, List, length, take, None, IsSome}
use Rattle.plinq_source.specs.Trace.{Trace, open_trace}
use Rattle.plinq_lambda.specs.Meaning.{Meaning}
use Rattle.plinq_ops.specs.declared.op.Op.{Op}
use Rattle.plinq_ops.specs.Stage.{Stage, seq}
use Rattle.plinq_ops.specs.Operator.{stages_of}

-- the operators of a query applied one after another
abbrev pub answer_of : {L T : Type 0} → (L → Meaning T) → List (Op L) → Trace T → Trace T
answer_of meaning ops t = seq (stages_of meaning ops) t

-- the first n items, with more to come
abbrev pub first_items : {T : Type 0} → ℕ → Trace T → Trace T
first_items n t = open_trace (take n t.items)

-- n is the least number of items that decides the answer, or all of them where no number does
pub record IsLeastDeciding {T : Type 0} (ss : List (Stage T)) (t : Trace T) (n : ℕ) : Type 0 where
  pub within : n ≤ length t.items
  pub open_before : (j : ℕ) → j < n → (seq ss (first_items j t)).ending ≡ None
  pub decided : n < length t.items → IsSome (seq ss (first_items n t)).ending

-- n items decide it, or are all of them, and came in blocks of at most this size: those before the last block leave it open
pub record IsDecidingInBlocks {T : Type 0} (size : ℕ) (ss : List (Stage T)) (t : Trace T) (n : ℕ) : Type 0 where
  pub within : n ≤ length t.items
  pub open_before : 0 < n → (seq ss (first_items (n - size) t)).ending ≡ None
  pub decided : n < length t.items → IsSome (seq ss (first_items n t)).ending
