use Rattle.std.proofs.Common.{◌≡◌, IfSome, length, flat_map, ap, sym, subst, ◌∙◌}
use Rattle.std.proofs.lemmas.Bool.{eqb-true}
use Rattle.plinq_text.specs.Lines.{lines_of, written}
use Rattle.plinq_text.specs.Steps.{answer, left}
use Rattle.plinq_rounds.specs.inner.Blocks.{AreSteadyBlocks}
use Rattle.plinq_rounds.proofs.BlockLaws.{parts-alone, parts-both}
use Rattle.plinq_rounds.proofs.round.pass_parts.Goals as goal

pub returns-then-is_empty-clause-made : goal.returns-then-is_empty-clause-made
returns-then-is_empty-clause-made g c =
    let none : length c.args.later.now ≡ 0 = eqb-true _ 0 (sym c.is_empty.ensures ∙ c.if-is_empty.true) in
    let made : AreSteadyBlocks c.args.first.now c.args.text.now c.in-Some.blocks.items =
    subst (λ o. IfSome o (λ bs. AreSteadyBlocks c.args.first.now c.args.text.now bs.items)) c.in-Some.is c.in_ok-blocks.ensures in
    parts-alone c.args.first.now c.args.later.now c.args.text.now c.in-Some.blocks.items none made

pub returns-clause-made : goal.returns-clause-made
returns-clause-made g c =
    let later = c.args.later.now in
    let blocks = c.in-Some.blocks.items in
    let made : AreSteadyBlocks c.args.first.now c.args.text.now c.in-Some.blocks.items =
    subst (λ o. IfSome o (λ bs. AreSteadyBlocks c.args.first.now c.args.text.now bs.items)) c.in-Some.is c.in_ok-blocks.ensures in
    parts-both c.args.first.now later c.pass_blocks.new.steps c.args.text.now blocks c.in_ok-one_block.field-0.items c.in_ok-passed.passed.items
    c.requires.whole made
    (c.in_ok-passed.ensures.made ∙ ap (λ bs. written (answer later (flat_map lines_of bs))) c.as_slice.ensures.value)
    (c.in_ok-passed.ensures.left ∙ ap (λ bs. left later (flat_map lines_of bs)) c.as_slice.ensures.value)
    c.in_ok-one_block.ensures.block
