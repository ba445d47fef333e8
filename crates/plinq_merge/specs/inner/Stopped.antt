-- What an offer answers that a token may have stopped.
use Rattle.std.specs.Prelude.{Bool, true, false, Result, Err}
use Rattle.plinq_merge.specs.declared.merge_fault.MergeFault.{MergeFault}
use Rattle.plinq_merge.specs.declared.merge_fault.MergeFault.TheVariants.{Cancelled}
use Rattle.plinq_merge.specs.declared.more.More.{More}

-- Cancelled where the token has stopped it, and else what it answered without that
abbrev pub answer_unless_stopped : Bool → Result More MergeFault → Result More MergeFault
answer_unless_stopped true answer = Err Cancelled
answer_unless_stopped false answer = answer
