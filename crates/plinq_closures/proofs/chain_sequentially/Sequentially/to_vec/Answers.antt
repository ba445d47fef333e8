-- What the query of the steps answers is what they do.
use Rattle.std.specs.Prelude.{◌≡◌, MatchResult}
use Rattle.std.proofs.Common.{subst, sym}
use Rattle.plinq_source.specs.Trace.{ended_trace}
use Rattle.plinq_ops.specs.Sequential.{answer_of}
use Rattle.plinq_closures.specs.Asked.{HasNone, LacksRoomAlone}
use Rattle.plinq_closures.proofs.Asked.{lacks-run, vec-sequentially}
use Rattle.plinq_closures.proofs.chain_sequentially.Sequentially.to_vec.Goals as goal

pub returns-in-Ok-clause-value : goal.returns-in-Ok-clause-value
returns-in-Ok-clause-value g c ops does =
    let t = g.Src.Source.whole c.args.source in
    subst (λ r. MatchResult r (λ it. ended_trace it.0.items it.1 ≡ answer_of (λ f. f) ops t) (HasNone c.args.workers)) (sym c.chain_outcome.ensures)
    (vec-sequentially c.args.workers _ c.in-Ok.query.ops ops (c.in-Ok.ensures.ops ops does) t (λ v. v.items) c.to_vec.result c.to_vec.ensures)

pub returns-in-Ok-clause-memory : goal.returns-in-Ok-clause-memory
returns-in-Ok-clause-memory g c = subst LacksRoomAlone (sym c.chain_outcome.ensures) (lacks-run _ c.to_vec.result c.to_vec.ensures)
