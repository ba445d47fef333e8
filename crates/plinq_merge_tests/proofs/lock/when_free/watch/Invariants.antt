use Rattle.plinq_ticket.specs.Passes.{IsPassOf}
use Rattle.plinq_merge_tests.proofs.lock.when_free.watch.Given as goal

abbrev pub invariant-loop-turn : goal.invariant-loop-turn
invariant-loop-turn l = IsPassOf l.lock l.pass
