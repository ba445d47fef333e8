-- Rows of faults: which answers an expansion that faults may not give.
use Rattle.std.specs.Prelude.{ℕ, Err}
use Rattle.plinq_lambda.specs.Meaning.{IsFaultOf}
use Rattle.plinq_lambda.specs.declared.expand_fault.ExpandFault.TheVariants.{Code, Memory}

-- where the meaning faults, no memory fault is answered, and no other code
memory_for_a_fault : IsFaultOf {T = ℕ} (Err 3) Memory → ⊥
memory_for_a_fault fault = absurd (cc)

another_code : IsFaultOf {T = ℕ} (Err 3) (Code 2) → ⊥
another_code fault = absurd (cc)
