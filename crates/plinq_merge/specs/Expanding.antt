-- Queries of which an element may expand.
use Rattle.std.specs.Prelude.{◌≡◌, refl, ℕ, Bool, true, false}
use Rattle.plinq_ops.specs.declared.op.Op.{Op}
use Rattle.plinq_ops.specs.declared.op.Op.TheVariants.{Select, SelectMany}

-- an operator that makes several items of one
abbrev pub is_select_many : {L : Type 0} → Op L → Bool
is_select_many (SelectMany f) = true
is_select_many op = false

expands : is_select_many {L = ℕ} (SelectMany 0) ≡ true
expands = refl

maps_alone : is_select_many {L = ℕ} (Select 0) ≡ false
maps_alone = refl
