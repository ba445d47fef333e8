use Rattle.std.proofs.Common.{◌≡◌, ◌<◌, ◌^◌, ◌∷◌, length, Some, None, sym, ap, ◌∙◌, arith}
use Rattle.atomic_table.specs.Table.{rest}
use Rattle.plinq_ticket.specs.inner.Steps.{records_in, slot_records}
use Rattle.plinq_ticket.proofs.LastState.{count-exact}
use Rattle.plinq_ticket.proofs.ticket_lock.TicketLock.take_value.Goals as goal

pub exchange-requires : goal.exchange-requires
exchange-requires g c =
    let inside = c.requires.inside in
    (c.requires.lock.same, (Some inside.value, inside.slot ∙ ap (λ xs. (0, Some inside.value) ∷ xs) (sym (ap rest inside.slot))))

pub invariant_of-result : goal.invariant_of-result
invariant_of-result g c =
    let e = c.exchange.ensures in
    let inside = c.requires.inside in
    let history = g.V.Guarded.history in
    let same : history c.unwrap-value.result ≡ history inside.value =
    ap (records_in history) (sym c.unwrap-value.ensures) ∙ ap (slot_records history) (sym e.2 ∙ inside.slot) in
    let found : c.records.result.now ≡ c.args.seat.me.0.found = c.records.ensures.value ∙ same ∙ inside.history_is in
    let few = c.records.type_inv.0 in
    let length_same : length c.records.result.now ≡ length c.args.seat.me.0.found = ap length found in
    let small : length c.args.seat.me.0.found < 2 ^ 64 = omega (arith, few, length_same) in
    record {
      inside = ap (λ m. m.0.standing.phase) e.3 ∙ inside.phase;
      drawn = c.requires.within;
      empty = ap (λ m. m.1) e.3 ∙ ap (λ xs. (0, None) ∷ rest xs) inside.slot;
      counted =
          count-exact c.args.records c.args.seat.me.0.share c.args.seat.me.0.found inside.contains small c.requires.counted
          ∙ ap (λ m. length m.0.share) (sym e.3);
      found_all = length_same ∙ ap (λ m. length m.0.found) (sym e.3);
    }
