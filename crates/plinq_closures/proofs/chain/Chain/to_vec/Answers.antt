-- What the query of the steps answers is what they do.
use Rattle.std.specs.Prelude.{◌≡◌, MatchResult}
use Rattle.std.proofs.Common.{subst, sym}
use Rattle.plinq_ops.specs.declared.merge_option.MergeOption.TheVariants.{AutoBuffered}
use Rattle.plinq_ops.specs.Sequential.{answer_of}
use Rattle.plinq_collect.specs.Telling.{GathersSome}
use Rattle.plinq_closures.specs.Asked.{HasNone}
use Rattle.plinq_closures.proofs.Asked.{vec-answer}
use Rattle.plinq_closures.proofs.chain.Chain.to_vec.Goals as goal

pub returns-in-Ok-clause-answer : goal.returns-in-Ok-clause-answer
returns-in-Ok-clause-answer g c ops does =
    let q = c.in-Ok.query in
    let is = c.in-Ok.ensures in
    let t = g.Src.Source.whole c.args.source in
    subst (λ r. MatchResult r (λ it. GathersSome AutoBuffered (λ u. u ≡ answer_of (λ f. f) ops t) it.0.items it.1) (HasNone c.args.workers))
    (sym c.chain_outcome.ensures)
    (vec-answer c.args.workers _ q.ordered is.ordered.0 q.merge is.ordered.1 q.ops ops (is.ops ops does) t (λ v. v.items) c.to_vec.result c.to_vec.ensures)
