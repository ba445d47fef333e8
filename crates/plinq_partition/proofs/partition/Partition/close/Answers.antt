use Rattle.std.proofs.Common.{arith}
use Rattle.plinq_keyed.specs.declared.event.Event.TheVariants.{Close}
use Rattle.plinq_partition.proofs.Taken.{recorded-inside}
use Rattle.plinq_partition.proofs.partition.Partition.close.Goals as goal

pub returns-clause-of : goal.returns-clause-of
returns-clause-of g c =
    let recorded =
    recorded-inside _ _ c.args.held c.value_mut.result.now _ _ c.ticket-ticket.result Close c.requires c.value_mut.ensures.value
    c.in_ok-closed.ensures.recorded c.leave.ensures.share in
    record {
      of = c.leave.ensures.lock;
      counted = let d = c.leave.ensures.drawn in let k = c.requires.counted in let n = c.requires.drawn in omega arith;
      rising = recorded.rising;
    }
