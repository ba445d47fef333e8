use Rattle.std.proofs.Common.{◌+◌, ◌++◌, List, ℕ, drop, flat_map, ap, ◌∙◌, sym}
use Rattle.std.proofs.lemmas.List.{at_drop_more, drop_all}
use Rattle.plinq_lines.proofs.PartWritten.{all-written, none-written, piece-failed, piece-written}
use Rattle.plinq_rounds.proofs.round.write_blocks.Goals as goal

abbrev joined : List (List ℕ) → List ℕ
joined = flat_map (λ b. b)

pub returns-in_err-write_bytes : goal.returns-in_err-write_bytes
returns-in_err-write_bytes g c =
    let i = c.loop-block.block-index in
    let rest = joined (drop (i + 1) c.args.blocks.now) in
    piece-failed _ _ c.as_slice.result.now rest c.loop-block.invariant
    (at_drop_more joined c.args.blocks.now i c.block-item.result c.loop-block-test.true ∙ ap (λ b. b ++ rest) (sym (c.as_slice.ensures ∙ c.block-item.is)))
    c.from_residual.ensures.0 c.in_err-write_bytes.ensures

pub loop-block-init : goal.loop-block-init
loop-block-init g c = none-written _ _

pub loop-block-preserved : goal.loop-block-preserved
loop-block-preserved g c =
    let i = c.loop-block.block-index in
    let rest = joined (drop (i + 1) c.args.blocks.now) in
    piece-written _ c.as_slice.result.now rest c.loop-block.invariant
    (at_drop_more joined c.args.blocks.now i c.block-item.result c.loop-block-test.true ∙ ap (λ b. b ++ rest) (sym (c.as_slice.ensures ∙ c.block-item.is)))
    c.in_ok-write_bytes.ensures

pub returns : goal.returns
returns g c = all-written c.loop-block.invariant (ap joined (drop_all c.loop-block.block-index c.args.blocks.now c.loop-block-test.false))
