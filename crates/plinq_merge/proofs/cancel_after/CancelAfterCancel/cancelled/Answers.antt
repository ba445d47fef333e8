use Rattle.std.proofs.Common.{rules}
use Rattle.plinq_merge.proofs.cancel_after.CancelAfterCancel.cancelled.Goals as goal

pub returns : goal.returns
returns c = search rules
