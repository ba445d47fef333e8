use Rattle.std.proofs.Common.{◌≡◌, take, flat_map}
use Rattle.plinq_text.specs.Lines.{lines_of, written}
use Rattle.plinq_text.specs.StepPatterns.{ArePatternsOf}
use Rattle.plinq_text.specs.Steps.{answer, left}
use Rattle.plinq_rounds.proofs.round.pass_blocks.Given as goal

abbrev pub invariant-loop-block : goal.invariant-loop-block
invariant-loop-block l = record {
  made : l.passed.items ≡ written (answer l.fn.steps (flat_map lines_of (take l.block-index l.blocks)));
  left : l.steps ≡ left l.fn.steps (flat_map lines_of (take l.block-index l.blocks));
  kept : ArePatternsOf l.steps l.patterns;
}
