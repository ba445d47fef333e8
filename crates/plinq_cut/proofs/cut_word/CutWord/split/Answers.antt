use Rattle.std.proofs.Common.{arith}
use Rattle.plinq_cut.proofs.CutSteps.{splits}
use Rattle.plinq_cut.proofs.cut_word.CutWord.split.Goals as goal

pub split_seat-seat-requires : goal.split_seat-seat-requires
split_seat-seat-requires g c =
    let one = c.args.self.now.one in
    (c.requires, omega arith, splits g.E.StopKeys.stops_at _ _)
