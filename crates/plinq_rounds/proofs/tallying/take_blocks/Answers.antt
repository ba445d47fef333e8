use Rattle.std.proofs.Common.{◌≡◌, ◌+◌, ◌++◌, [], take, take_all, flat_map, ap, ◌∙◌, sym, append-nil}
use Rattle.std.specs.List.{fold}
use Rattle.std.proofs.lemmas.List.{take_more}
use Rattle.std.proofs.lemmas.List.Sums.{fold-append}
use Rattle.std.proofs.lemmas.Grind.{flat_map-append}
use Rattle.plinq_text.specs.Lines.{lines_of}
use Rattle.plinq_rounds.proofs.tallying.take_blocks.Goals as goal

pub loop-block-preserved : goal.loop-block-preserved
loop-block-preserved g c =
    let after = g.T.TakeLines.after in
    let blocks = c.args.blocks.now in
    let i = c.loop-block.block-index in
    let block = c.block-item.result in
    let before = flat_map lines_of (take i blocks) in
    let more : flat_map lines_of (take (i + 1) blocks) ≡ before ++ lines_of block =
    ap (flat_map lines_of) (take_more blocks i block c.loop-block-test.true)
    ∙ flat_map-append lines_of (take i blocks) _
    ∙ ap (λ b. before ++ (lines_of b ++ [])) (sym c.block-item.is)
    ∙ ap (λ ls. before ++ ls) (append-nil (lines_of block)) in
    c.in_ok-take_lines.ensures
    ∙ ap (λ b. fold after c.loop-block.taker (lines_of b)) c.as_slice.ensures
    ∙ ap (λ v. fold after v (lines_of block)) c.loop-block.invariant
    ∙ sym (fold-append after c.args.taker.now before (lines_of block))
    ∙ ap (fold after c.args.taker.now) (sym more)

pub returns : goal.returns
returns g c =
    c.loop-block.invariant
    ∙ ap (λ bs. fold g.T.TakeLines.after c.args.taker.now (flat_map lines_of bs))
    (take_all c.loop-block.block-index c.args.blocks.now c.loop-block-test.false)
