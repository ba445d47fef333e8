-- One call more.
use Rattle.std.proofs.Common.{rules, ◌≡◌, refl, [], ◌∷◌, ◌++◌}
use Rattle.plinq_merge.specs.inner.Sent.{up_to-more}
use Rattle.plinq_passing.proofs.call_each.CallEachSink.batch.Goals as goal

pub loop-item-preserved : goal.loop-item-preserved
loop-item-preserved g c =
    let parts : c.loop-item.rest.now ≡ (c.in-Some.item.now ∷ []) ++ c.in-Some.others.now = search rules in
    let taken : g.V.Visits.takes c.loop-item.self.by.now c.in-Some.item.now c.visit.new.called = search rules in (
      up_to-more _ _ _ c.loop-item.rest.now _ (c.in-Some.item.now ∷ []) _ _ c.loop-item.invariant.0 parts
          (c.visit.new.called, taken, refl),
      c.loop-item.invariant.1,
    )
