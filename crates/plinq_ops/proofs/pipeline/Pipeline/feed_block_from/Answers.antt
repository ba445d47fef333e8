use Rattle.std.proofs.Common.{◌≡◌, ◌++◌, ◌∙◌, ap}
use Rattle.std.proofs.lemmas.Result.{IfOk-weaker}
use Rattle.plinq_source.specs.Trace.{items_from}
use Rattle.plinq_source.proofs.Followed.{trace_of}
use Rattle.plinq_ops.proofs.Answered.{given-fill}
use Rattle.plinq_ops.proofs.pipeline.Pipeline.feed_block_from.Goals as goal

pub returns-clause-fed : goal.returns-clause-fed
returns-clause-fed g c =
    let source = c.args.source.now in
    let law = g.met.S.Source g.world.𝓛 g.world.𝓜 g.world.𝓡 (λ s a. a, λ a. a, λ a. a, λ a. a) in
    let t = g.S.Source.whole source in
    let xs = c.fill-ending.new.items.items in
    let filled : xs ≡ items_from t (g.S.Source.given source) c.args.most =
    c.fill-ending.ensures.filled ∙ ap (λ ys. ys ++ items_from t (g.S.Source.given source) c.args.most) (c.in_ok-reserve.ensures.items ∙ c.requires.empty) in
    IfOk-weaker c.feed_block.result _ _
    (λ e fed. record {
      piece = trace_of xs c.fill-ending.result;
      given =
          given-fill t _ c.args.most _ _ _ c.requires.some (law.ends source) (law.within source) filled c.fill-ending.ensures.ending
          c.fill-ending.ensures.moved;
      fed = fed;
    })
    c.feed_block.ensures.fed
