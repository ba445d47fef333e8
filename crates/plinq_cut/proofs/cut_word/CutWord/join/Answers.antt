use Rattle.std.proofs.Common.{arith}
use Rattle.plinq_cut.proofs.CutSteps.{joins}
use Rattle.plinq_cut.proofs.cut_word.CutWord.join.Goals as goal

pub join_seat-requires : goal.join_seat-requires
join_seat-requires g c =
    let one = c.args.self.now.one in
    (c.requires.0, c.requires.1, c.args.second.empty, omega arith, joins g.E.StopKeys.stops_at _ _ _ _)
