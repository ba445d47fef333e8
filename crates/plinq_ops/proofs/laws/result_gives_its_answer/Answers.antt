use Rattle.plinq_ops.proofs.Cut.{result-is, kept-from_told}
use Rattle.plinq_ops.proofs.laws.result_gives_its_answer.Goals as goal

pub returns : goal.returns
returns g c = λ meaning worker cut chunk r made kept. (result-is meaning worker cut chunk r made (kept-from_told meaning worker cut chunk r made kept)).0
