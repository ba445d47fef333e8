use Rattle.std.proofs.Common.{drop, flat_map}
use Rattle.plinq_lines.proofs.PartWritten.{PartWritten}
use Rattle.plinq_rounds.proofs.round.write_blocks.Given as goal

abbrev pub invariant-loop-block : goal.invariant-loop-block
invariant-loop-block g l =
    PartWritten (g.W.Write.contents l.initial.out) (g.W.Write.contents l.out) (flat_map (λ b. b) (drop l.block-index l.blocks)) (flat_map (λ b. b) l.blocks)
