use Rattle.std.proofs.Common.{arith}
use Rattle.plinq_cut.proofs.CutSteps.{lowers}
use Rattle.plinq_cut.proofs.cut_word.CutWord.lower.Goals as goal

pub fetch_min-requires : goal.fetch_min-requires
fetch_min-requires g c =
    let one = c.args.self.now.one in
    (c.requires.pass, omega arith, lowers g.E.StopKeys.stops_at _ _ _ c.args.key c.args.pass.now.passing c.requires.stop_key)
