use Rattle.plinq_stream.proofs.Steps.{begins}
use Rattle.plinq_stream.proofs.stream.Stream.new.Goals as goal

pub ruled-requires-clause-rule : goal.ruled-requires-clause-rule
ruled-requires-clause-rule g c = begins g.C.Admits.admits
