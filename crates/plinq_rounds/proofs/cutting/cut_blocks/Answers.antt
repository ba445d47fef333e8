use Rattle.std.proofs.Common.{◌++◌, ◌∷◌, [], append_assoc, append-nil, ap, sym, subst, ◌∙◌, arith}
use Rattle.plinq_rounds.specs.declared.block.Span.{Span}
use Rattle.plinq_rounds.specs.inner.Blocks.{IsCutFrom}
use Rattle.plinq_rounds.proofs.BlockLaws.{cut-more, cut-over}
use Rattle.plinq_rounds.proofs.cutting.cut_blocks.Goals as goal

pub loop-start-init : goal.loop-start-init
loop-start-init c =
    record { within = omega arith; cut = λ more is. subst (IsCutFrom c.args.text.now 0) (ap (λ xs. xs ++ more) (sym c.new-spans.ensures.items)) is }

pub loop-start-preserved : goal.loop-start-preserved
loop-start-preserved c =
    let text = c.args.text.now in
    let spans = c.loop-start.spans.items in
    let s : Span = record { start = c.loop-start.start; end = c.block_end-end.result } in
    record {
      within = c.block_end-end.ensures.within;
      cut = λ more is. subst (IsCutFrom text 0)
          (sym (ap (λ xs. xs ++ more) c.in_ok-push.ensures.items ∙ append_assoc spans (s ∷ []) more))
          (c.loop-start.invariant.cut (s ∷ more)
          (cut-more text c.loop-start.start c.block_end-end.result more c.block_end-end.ensures.longer
          c.block_end-end.ensures.within c.block_end-end.ensures.whole is));
    }

pub returns : goal.returns
returns c =
    subst (IsCutFrom c.args.text.now 0) (append-nil c.loop-start.spans.items)
    (c.loop-start.invariant.cut [] (cut-over c.args.text.now c.loop-start.start c.loop-start-test.false))
