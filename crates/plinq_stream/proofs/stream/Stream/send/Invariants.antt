use Rattle.std.proofs.Common.{◌≡◌}
use Rattle.plinq_stream.specs.Passes.{IsPassOf, knowledge_of}
use Rattle.plinq_stream.proofs.stream.Stream.send.Given as goal

abbrev pub invariant-loop : goal.invariant-loop
invariant-loop g l = record {
  can : (goal.iterator-loop g).can_next l.iterator';
  finite : (goal.iterator-loop g).is_finite l.iterator';
  pass : IsPassOf l.self l.pass;
  known : knowledge_of l.pass ≡ knowledge_of l.fn.pass;
  waiting : l.waiting ≡ record { number = l.number; item = l.fn.item };
}
