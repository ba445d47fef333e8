use Rattle.std.specs.Prelude.{◌≡◌, true}
use Rattle.plinq_stream.specs.Passes.{IsPassOf, knowledge_of}
use Rattle.plinq_merge_tests.proofs.full_queue.receive_all.Given as goal

abbrev pub invariant-loop : goal.invariant-loop
invariant-loop g l = record {
  of : IsPassOf l.stream l.pass;
  receives : (knowledge_of l.pass).receives ≡ true;
}
