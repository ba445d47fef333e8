use Rattle.plinq_ticket.specs.Passes.{IsPassOf}
use Rattle.plinq_merge_tests.proofs.lock.visit_often.Given as goal

abbrev pub invariant-loop-turn : goal.invariant-loop-turn
invariant-loop-turn g l = IsPassOf l.lock l.pass
