use Rattle.std.proofs.Common.{rules, ◌<◌, [], ◌∷◌, length, arith, refl}
use Rattle.plinq_merge.specs.Sending.{Leads}
use Rattle.plinq_merge.specs.inner.Sent.{up_to-more, up_to-leads}
use Rattle.plinq_merge.proofs.Blocks.{full_batches-split, full_batches-short}
use Rattle.plinq_merge.proofs.sink.Sink.batches_of.Goals as goal

pub loop-rest-preserved : goal.loop-rest-preserved
loop-rest-preserved g c =
    let batch = c.split_at.result.0.now in
    let all = full_batches-split c.args.size c.loop-rest.rest.now batch c.split_at.result.1.now c.requires (search rules) (search rules) (search rules) in
    let sent : Leads g.Self.Sink.accepts c.loop-rest.self (batch ∷ []) c.batch.new.self = search rules in
    up_to-more _ _ _ _ _ (batch ∷ []) _ _ c.loop-rest.invariant all sent

pub returns : goal.returns
returns g c =
    let short : length c.loop-rest.rest.now < c.args.size = search rules in
    up_to-leads _ _ _ [] _ _ (rw (full_batches-short c.args.size [] c.loop-rest.rest.now (omega (arith, short))) at c.loop-rest.invariant) refl
