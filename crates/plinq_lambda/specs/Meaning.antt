-- What a lambda does to one element, as three functions.
use Rattle.std.specs.Prelude.{◌≡◌, ℕ, List, Bool, Result, Err, IsOk}
use Rattle.plinq_lambda.specs.declared.expand_fault.ExpandFault.{ExpandFault}
use Rattle.plinq_lambda.specs.declared.expand_fault.ExpandFault.TheVariants.{Code, Memory}

-- each function gives its value, or the code of a fault
pub record Meaning (T : Type 0) : Type 0 where
  pub map : T → Result T ℕ
  pub test : T → Result Bool ℕ
  pub expand : T → Result (List T) ℕ

-- the most items that an expansion may have
abbrev pub most_items : ℕ
most_items = 65536

-- why an expansion has no items: the meaning's fault, or else that memory ran out for the meaning's list, which may be empty
abbrev pub IsFaultOf : {T : Type 0} → Result (List T) ℕ → ExpandFault → Type 0
IsFaultOf m (Code c) = m ≡ Err c
IsFaultOf m Memory = IsOk m
