use Rattle.std.proofs.Common.{◌≡◌, ◌≤◌, List, ℕ, Option, Ok, Err, filter_map, length, arith, ap, subst, sym}
use Rattle.plinq_collect.specs.declared.same.Same.{Same}
use Rattle.plinq_lambda.specs.Meaning.{Meaning}
use Rattle.plinq_rounds.specs.contracts.block.SpanPartialEq.TheImpl as span
use Rattle.plinq_rounds.specs.declared.block.Span.{Span}
use Rattle.plinq_rounds.specs.inner.Blocks.{AreSteadyBlocks, part_of, steady_bytes}
use Rattle.plinq_rounds.proofs.BlockLaws.{blocks-made, from-made}
use Rattle.plinq_rounds.proofs.making.make_blocks.Goals as goal

pub returns : goal.returns
returns g c =
    let steps = c.args.steps.now in
    let text = c.args.text.now in
    let spans = c.in-Ok.spans.items in
    let f : Span → Option (List ℕ) = λ s. steady_bytes steps (part_of text s) in
    let same : Same Span → Meaning Span = λ l. record { map = λ x. Ok x; test = λ x. Ok ((span.ghosts).eq x l.0); expand = λ x. Err 0 } in
    let blocks : c.in_ok-blocks.blocks.items ≡ filter_map f spans =
    from-made f same c.in_ok-query.query.ops _ spans c.in_ok-blocks.blocks.items
    c.in_ok-blocks.field-0-1 c.in_ok-query.ensures.1 c.in-Ok-list_source.ensures.whole
    (c.in_ok-blocks.ensures.ordered c.in_ok-query.ensures.0) in
    let many = ap length blocks in
    let before = c.len-count.ensures in
    let after = c.len.ensures in
    let not_fewer = c.if-len-count.false in
    let enough : length spans ≤ length (filter_map f spans) = omega (many, before, after, not_fewer, arith) in
    subst (AreSteadyBlocks steps text) (sym blocks) (blocks-made steps text 0 spans c.in-Ok.ensures enough)
