use Rattle.std.proofs.Common.{◌≡◌}
use Rattle.std.specs.List.{fold}
use Rattle.plinq_stopping.proofs.sums.SumsTakeIntoWithCancellationAcc.take.Given as goal

abbrev pub invariant-loop-part : goal.invariant-loop-part
invariant-loop-part g l = l.acc ≡ fold (g.A.GrowingAggregator.folding l.fn.self.aggregator.now).combine l.fn.out.sink.now l.yielded
