use Rattle.std.proofs.Common.{◌≡◌, ◌+◌, ◌++◌, [], take, take_all, flat_map, ap, ◌∙◌, sym, append-nil}
use Rattle.std.proofs.lemmas.List.{take_more}
use Rattle.std.proofs.lemmas.Grind.{flat_map-append}
use Rattle.plinq_text.specs.Lines.{Line, lines_of, written}
use Rattle.plinq_text.specs.Steps.{answer, left}
use Rattle.plinq_text.proofs.StepLaws.{answer-append, answer-nil, left-append, left-nil}
use Rattle.plinq_rounds.proofs.round.pass_blocks.Goals as goal

pub loop-block-init : goal.loop-block-init
loop-block-init c = record {
  made = c.new-passed.ensures.items ∙ sym (ap written (answer-nil c.args.steps.now));
  left = sym (left-nil c.args.steps.now);
  kept = c.requires;
}

pub loop-block-preserved : goal.loop-block-preserved
loop-block-preserved c =
    let ss = c.args.steps.now in
    let blocks = c.args.blocks.now in
    let i = c.loop-block.block-index in
    let block = c.block-item.result in
    let before = flat_map lines_of (take i blocks) in
    let bytes : c.as_slice.result.now ≡ block = c.as_slice.ensures in
    let more : flat_map lines_of (take (i + 1) blocks) ≡ before ++ lines_of block =
    ap (flat_map lines_of) (take_more blocks i block c.loop-block-test.true)
    ∙ flat_map-append lines_of (take i blocks) _
    ∙ ap (λ b. before ++ (lines_of b ++ [])) (sym c.block-item.is)
    ∙ ap (λ ls. before ++ ls) (append-nil (lines_of block)) in
    record {
      made = c.in_ok-pass_lines.ensures.made
          ∙ ap (λ b. b ++ written (answer c.loop-block.steps (lines_of c.as_slice.result.now))) c.loop-block.invariant.made
          ∙ ap (λ b. written (answer ss before) ++ written (answer c.loop-block.steps (lines_of b))) bytes
          ∙ ap (λ x. written (answer ss before) ++ written (answer x (lines_of block))) c.loop-block.invariant.left
          ∙ sym (flat_map-append (λ (l : Line). l.text ++ l.end) (answer ss before) (answer (left ss before) (lines_of block)))
          ∙ ap written (sym (answer-append ss before (lines_of block)))
          ∙ ap (λ ls. written (answer ss ls)) (sym more);
      left = c.in_ok-pass_lines.ensures.left
          ∙ ap (λ b. left c.loop-block.steps (lines_of b)) bytes
          ∙ ap (λ x. left x (lines_of block)) c.loop-block.invariant.left
          ∙ sym (left-append ss before (lines_of block))
          ∙ ap (left ss) (sym more);
      kept = c.in_ok-pass_lines.ensures.kept;
    }

pub pass_lines-requires : goal.pass_lines-requires
pass_lines-requires c = c.loop-block.invariant.kept

pub returns : goal.returns
returns c =
    let all : flat_map lines_of (take c.loop-block.block-index c.args.blocks.now) ≡ flat_map lines_of c.args.blocks.now =
    ap (flat_map lines_of) (take_all c.loop-block.block-index c.args.blocks.now c.loop-block-test.false) in
    record {
      made = c.loop-block.invariant.made ∙ ap (λ ls. written (answer c.args.steps.now ls)) all;
      left = c.loop-block.invariant.left ∙ ap (left c.args.steps.now) all;
      kept = c.loop-block.invariant.kept;
    }
