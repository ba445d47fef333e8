use Rattle.std.proofs.Common.{arith}
use Rattle.plinq_cut.proofs.CutSteps.{sees}
use Rattle.plinq_cut.proofs.cut_word.CutWord.read.Goals as goal

pub load-requires : goal.load-requires
load-requires g c =
    let one = c.args.self.now.one in
    (c.requires, omega arith, sees g.E.StopKeys.stops_at _ _ _ c.args.pass.now.passing)
