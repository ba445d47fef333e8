use Rattle.std.proofs.Common.{◌≡◌, take, flat_map}
use Rattle.std.specs.List.{fold}
use Rattle.plinq_text.specs.Lines.{lines_of}
use Rattle.plinq_rounds.proofs.tallying.take_blocks.Given as goal

abbrev pub invariant-loop-block : goal.invariant-loop-block
invariant-loop-block g l = l.taker ≡ fold g.T.TakeLines.after l.fn.taker (flat_map lines_of (take l.block-index l.blocks))
