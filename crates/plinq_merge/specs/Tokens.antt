-- What the token that counts batches answers.
use Rattle.std.specs.Prelude.{◌≡◌, ℕ, Bool, nat_le, ◌||◌}
use Rattle.plinq_merge.specs.declared.cancel_after.CancelAfter.{CancelAfter}

-- after how many batches it stops
abbrev pub most_of : CancelAfter → ℕ
most_of t = t.most

-- it answers whether so many were delivered, and keeps that it has answered true
pub record AsksAfter (t : CancelAfter) (n : ℕ) (answer : Bool) (t' : CancelAfter) : Type 0 where
  pub is : answer ≡ nat_le t.most n
  pub most : t'.most ≡ t.most
  pub told : t'.has_told ≡ (t.has_told || answer)
