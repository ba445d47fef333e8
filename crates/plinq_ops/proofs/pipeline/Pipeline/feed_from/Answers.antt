use Rattle.std.proofs.lemmas.Result.{IfOk-weaker}
use Rattle.plinq_ops.specs.Feeding.{trace_of_step}
use Rattle.plinq_ops.proofs.Answered.{given-next}
use Rattle.plinq_ops.proofs.pipeline.Pipeline.feed_from.Goals as goal

pub returns-clause-fed : goal.returns-clause-fed
returns-clause-fed g c =
    let source = c.args.source.now in
    let law = g.met.S.Source g.world.𝓛 g.world.𝓜 g.world.𝓡 (λ s a. a, λ a. a, λ a. a, λ a. a) in
    IfOk-weaker c.feed_next.result _ _
    (λ e fed. record {
      piece = trace_of_step c.next-step.result;
      given = given-next (g.S.Source.whole source) _ _ _ (law.ends source) (law.within source) c.next-step.ensures.step c.next-step.ensures.moved;
      fed = fed;
    })
    c.feed_next.ensures.fed
