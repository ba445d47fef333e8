use Rattle.std.proofs.Common.{◌+◌, ◌≤◌, length, refl, ap, arith, subst}
use Rattle.plinq_source.specs.Trace.{Trace}
use Rattle.plinq_keyed.specs.declared.event.Event.TheVariants.{Ask}
use Rattle.plinq_keyed.specs.History.{start, place_after, reply, request_record, next_record, IsChunkOf}
use Rattle.plinq_enumerator.specs.Held.{held_source, held_records}
use Rattle.plinq_partition.proofs.Shares.{chunk-within}
use Rattle.plinq_partition.proofs.Taken.{recorded-inside}
use Rattle.plinq_partition.proofs.partition.Partition.ask.Goals as goal

pub returns-clause-of : goal.returns-clause-of
returns-clause-of g c =
    let e = Ask c.args.n in
    let recorded =
    recorded-inside _ _ c.args.held c.value_mut.result.now _ _ c.ticket-ticket.result e c.requires.inside c.value_mut.ensures.value
    c.in_ok-chunk.ensures.recorded c.leave.ensures.share in
    record {
      of = c.leave.ensures.lock;
      counted = let d = c.leave.ensures.drawn in let k = c.requires.inside.counted in let n = c.requires.inside.drawn in omega arith;
      rising = recorded.rising;
    }

pub returns-clause-taken : goal.returns-clause-taken
returns-clause-taken g c =
    let value = c.value_mut.result.now in
    let t = g.S.Source.whole (held_source value) in
    let h = held_records value in
    let ticket = c.ticket-ticket.result in
    let e = Ask c.args.n in
    let left =
    recorded-inside _ _ c.args.held value _ _ ticket e c.requires.inside c.value_mut.ensures.value c.in_ok-chunk.ensures.recorded
    c.leave.ensures.share in
    let entry = next_record t h ticket e in
    let chunk = c.in_ok-chunk.chunk in
    let of : IsChunkOf t entry chunk = c.in_ok-chunk.ensures.chunk in
    let Within : Trace _ → Type 0 = λ u. chunk.first + length chunk.items.items ≤ length u.items in
    let place = place_after t start h in
    let sized = chunk-within t h ticket e chunk left.legal of in
    record {
      entry = entry;
      adds = record {
        origin = c.leave.ensures.origin;
        share = left.share;
        asked_is = refl;
        place = place;
        replied = ap (λ u. request_record ticket e (reply u place e)) left.origin;
      };
      some = c.requires.some;
      of = rw (← left.origin) of;
      counted = sized.0;
      within = subst Within left.origin sized.1;
      requests = ap (λ n. n + 1) c.spare_list-list.ensures.requests;
    }
