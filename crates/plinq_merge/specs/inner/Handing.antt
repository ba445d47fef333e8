-- Items that are handed on once they fill a batch.
use Rattle.std.specs.Prelude.{◌≡◌, ℕ, List, ◌++◌, Option, Result, OnOk}
use Rattle.plinq_merge.specs.declared.buffer.Buffer.{Buffer}
use Rattle.plinq_merge.specs.declared.delivery_fault.DeliveryFault.{DeliveryFault}
use Rattle.plinq_merge.specs.Buffer.{held_of, size_of, HasRoom}
use Rattle.plinq_merge.specs.Sending.{IsFilled}

-- items came to a buffer: the batches that they fill were sent, what is left is held back, and there is room for more
pub record Fills {K T A : Type 0} (accepts : K → List T → K → Type 0) (refuses : K → List T → ℕ → K → Type 0)
    (b : Buffer T) (items : List T) (s : K) (result : Result A DeliveryFault) (b' : Buffer T) (s' : K) : Type 0 where
  pub size : size_of b' ≡ size_of b
  pub room : OnOk result (HasRoom b')
  pub filled : IsFilled accepts refuses (size_of b) (held_of b) items s result (held_of b') s'

-- of the items that were made the first were given to the buffer, and the others wait
pub record HandsOn {K T A : Type 0} (accepts : K → List T → K → Type 0) (refuses : K → List T → ℕ → K → Type 0) (size : Option ℕ)
    (held made : List T) (s : K) (result : Result A DeliveryFault) (held' made' : List T) (s' : K) : Type 0 where
  pub given : List T
  pub left : List T
  pub parts : made ≡ given ++ left
  pub waits : OnOk result (made' ≡ left)
  pub filled : IsFilled accepts refuses size held given s result held' s'
