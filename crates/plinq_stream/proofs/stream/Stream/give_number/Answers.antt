use Rattle.plinq_stream.proofs.Steps.{hands_out}
use Rattle.plinq_stream.proofs.stream.Stream.give_number.Goals as goal

pub another-pass-requires-clause-rule : goal.another-pass-requires-clause-rule
another-pass-requires-clause-rule g c = hands_out g.C.Admits.admits _ _ c.requires.first
