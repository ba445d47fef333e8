use Rattle.plinq_stream.proofs.Steps.{takes_in}
use Rattle.plinq_stream.proofs.stream.Stream.join.Goals as goal

pub absorb-requires-clause-rule : goal.absorb-requires-clause-rule
absorb-requires-clause-rule g c = takes_in g.C.Admits.admits _ _ _ _ c.requires.sends
