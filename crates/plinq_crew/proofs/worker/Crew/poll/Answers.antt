use Rattle.std.proofs.Common.{ap, ◌∙◌, refl}
use Rattle.plinq_stream.specs.Knowing.{with_received}
use Rattle.plinq_stream.specs.Passes.{knowledge_of}
use Rattle.plinq_crew.proofs.worker.Crew.poll.Goals as goal

pub returns-in-Some-clause-received : goal.returns-in-Some-clause-received
returns-in-Some-clause-received g c =
    (c.in-Some.sent, refl, c.in-Some.ensures.received ∙ ap (λ p. with_received (knowledge_of p) c.in-Some.sent) c.close_in_time.ensures.stream)
