-- An answer that one thread delivers.
use Rattle.std.specs.Prelude.{◌≡◌, ℕ, List, [], Option, Some, Result, IfOk, OnOk}
use Rattle.plinq_source.specs.declared.ending.Ending.{Ending}
use Rattle.plinq_source.specs.Trace.{Trace}
use Rattle.plinq_ops.specs.Batches.{batches_from}
use Rattle.plinq_ops.specs.Sequential.{IsDecidingInBlocks}
use Rattle.plinq_ops.specs.Stage.{Stage, seq}
use Rattle.plinq_merge.specs.declared.delivery_fault.DeliveryFault.{DeliveryFault}
use Rattle.plinq_merge.specs.Sending.{Delivers}

-- what these operators make of a source is delivered, or its first batches; where it is all, how it ends is told, and the
-- source, which was asked for so many items at once, has given what decides it
pub record DeliversAnswer {K T : Type 0} (accepts : K → List T → K → Type 0) (refuses : K → List T → ℕ → K → Type 0) (size : Option ℕ) (most : ℕ)
    (ss : List (Stage T)) (t : Trace T) (s : K) (given : ℕ) (result : Result Ending DeliveryFault) (s' : K) : Type 0 where
  pub ending : IfOk result (λ e. (seq ss t).ending ≡ Some e)
  pub delivered : Delivers accepts refuses s (batches_from size [] (seq ss t)) result s'
  pub blocks : OnOk result (IsDecidingInBlocks most ss t given)
