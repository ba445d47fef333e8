use Rattle.std.proofs.Common.{rules, ◌∙◌}
use Rattle.plinq_crew.proofs.Working.{goes-on, ends-work, each-part}
use Rattle.plinq_crew.proofs.worker.Crew.work.Goals as goal

pub returns-then-is_last-clause-worked : goal.returns-then-is_last-clause-worked
returns-then-is_last-clause-worked g c =
    ends-work c.args.worker _ _ _ _ c.in-Ok.made c.loop.invariant.work c.in-Ok.ensures.next.taken c.send.ensures.sent (search rules)

pub returns-then-is_last-clause-results : goal.returns-then-is_last-clause-results
returns-then-is_last-clause-results g c =
    each-part c.args.worker _ c.in-Ok.ensures.next c.loop.invariant.origin c.send.ensures.sent c.loop.invariant.results

pub loop-preserved : goal.loop-preserved
loop-preserved g c =
    record {
      can = tt;
      finite = tt;
      of = c.in-Ok.ensures.of;
      origin = c.in-Ok.ensures.origin ∙ c.loop.invariant.origin;
      cut = c.in-Ok.ensures.cut;
      stream = c.send.ensures.pass;
      work = goes-on c.args.worker _ _ _ _ c.in-Ok.made c.loop.invariant.work c.in-Ok.ensures.next.taken c.send.ensures.sent (search rules);
      results = each-part c.args.worker _ c.in-Ok.ensures.next c.loop.invariant.origin c.send.ensures.sent c.loop.invariant.results;
    }
