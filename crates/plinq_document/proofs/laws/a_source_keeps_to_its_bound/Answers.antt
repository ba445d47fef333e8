use Rattle.plinq_document.proofs.Bounds.{bound-plain}
use Rattle.plinq_document.proofs.laws.a_source_keeps_to_its_bound.Goals as goal

pub returns : goal.returns
returns c = λ d t is. bound-plain d t is
