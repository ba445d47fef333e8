use Rattle.std.proofs.Common.{◌≡◌, ◌+◌, length, drop}
use Rattle.plinq_ops.specs.Plan.{worker_from, worker_part}
use Rattle.plinq_ops.proofs.splitting.worker_len.Given as goal

abbrev pub invariant-loop-at : goal.invariant-loop-at
invariant-loop-at g l = l.at + length (worker_from l.known (drop l.at l.ops)) ≡ length (worker_part l.fn.order l.ops)
