use Rattle.std.specs.Prelude.{◌≡◌, true}
use Rattle.plinq_stream.specs.Passes.{IsPassOf, knowledge_of}
use Rattle.plinq_stream.specs.Streams.{has}
use Rattle.plinq_merge_tests.proofs.full_queue.send_all.Given as goal

abbrev pub invariant-loop-item : goal.invariant-loop-item
invariant-loop-item g l = record {
  of : IsPassOf l.stream l.pass;
  own : has 0 (knowledge_of l.pass).numbers ≡ true;
}
