-- Operators before any item has reached them.
use Rattle.std.specs.Prelude.{◌≡◌, List, [], ◌∷◌, refl}
use Rattle.std.specs.List.{list_any}
use Rattle.plinq_lambda.specs.Meaning.{Meaning}
use Rattle.plinq_ops.specs.declared.op.Op.{Op}
use Rattle.plinq_ops.specs.Stage.{some_takes_none}
use Rattle.plinq_ops.specs.Operator.{stages_of}
use Rattle.plinq_ops.specs.Feeding.{is_empty_take}
use Rattle.plinq_ops.proofs.Operators.{takes_none-stage_of}

-- an operator that is a Take of none is a stage that takes none
pub some_takes_none-stages_of : {L T : Type 0} (meaning : L → Meaning T) (ops : List (Op L))
    → list_any is_empty_take ops ≡ some_takes_none (stages_of meaning ops)
some_takes_none-stages_of meaning [] = refl
some_takes_none-stages_of meaning (op ∷ ops) =
    let first = takes_none-stage_of meaning op in
    let others = some_takes_none-stages_of meaning ops in
    cc
