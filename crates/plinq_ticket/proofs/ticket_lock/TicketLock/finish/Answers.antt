use Rattle.std.proofs.Common.{◌≡◌, ap, length, subst, ◌∙◌, arith}
use Rattle.plinq_ticket.specs.Lawful.{origin_in, history_of}
use Rattle.plinq_ticket.proofs.LastState.{IsHome, last-from_final}
use Rattle.plinq_ticket.proofs.Finishes.{finished-by, home-from_last, whole-from_last, incomplete-from_last}
use Rattle.plinq_ticket.proofs.ticket_lock.TicketLock.finish.Goals as goal

pub returns-then-served-drawn : goal.returns-then-served-drawn
returns-then-served-drawn g c =
    let last =
    last-from_final g.V.Guarded.origin g.V.Guarded.history _ _ _ _ _ _ _ _ c.args.pass.idle c.close_with-closed.ensures.values.2 c.word-drawn.ensures
    c.word-served.ensures c.take-slot.ensures.value in
    finished-by g.V.Guarded.origin g.V.Guarded.history c.args.pass _ _ _ _ last c.if-served-drawn.true

pub unreachable-requires : goal.unreachable-requires
unreachable-requires g c =
    let last =
    last-from_final g.V.Guarded.origin g.V.Guarded.history _ _ _ _ _ _ _ _ c.args.pass.idle c.close_with-closed.ensures.values.2 c.word-drawn.ensures
    c.word-served.ensures c.take-slot.ensures.value in
    let order = last.lawful.turns.order in
    let all : c.word-served.result ≡ c.word-drawn.result = omega (arith, order, c.if-served-drawn.false) in
    subst (IsHome g.V.Guarded.origin g.V.Guarded.history (origin_in c.args.pass.seat.me.0) (history_of last.views)) c.in_default.is (last.home all)

pub returns-then-records-all : goal.returns-then-records-all
returns-then-records-all g c =
    let last =
    last-from_final g.V.Guarded.origin g.V.Guarded.history _ _ _ _ _ _ _ _ c.args.pass.idle c.close_with-closed.ensures.values.2 c.word-drawn.ensures
    c.word-served.ensures c.take-slot.ensures.value in
    let few = c.records.type_inv.0 in
    let count = ap length c.records.ensures.value in
    let home =
    home-from_last g.V.Guarded.origin g.V.Guarded.history c.args.pass _ _ _ _ _ last (omega (arith, c.if-served-drawn.false)) c.in-Some.is
    (omega arith) c.args.pass.counted in
    finished-by g.V.Guarded.origin g.V.Guarded.history c.args.pass _ _ _ _ last
    (home.0, whole-from_last g.V.Guarded.origin g.V.Guarded.history c.args.pass _ _ _ _ _ last home.1 (c.if-records-all.true ∙ count))

pub returns-else-records-all : goal.returns-else-records-all
returns-else-records-all g c =
    let last =
    last-from_final g.V.Guarded.origin g.V.Guarded.history _ _ _ _ _ _ _ _ c.args.pass.idle c.close_with-closed.ensures.values.2 c.word-drawn.ensures
    c.word-served.ensures c.take-slot.ensures.value in
    let few = c.records.type_inv.0 in
    let count = ap length c.records.ensures.value in
    let home =
    home-from_last g.V.Guarded.origin g.V.Guarded.history c.args.pass _ _ _ _ _ last (omega (arith, c.if-served-drawn.false)) c.in-Some.is
    (omega arith) c.args.pass.counted in
    finished-by g.V.Guarded.origin g.V.Guarded.history c.args.pass _ _ _ _ last
    (home.0, incomplete-from_last g.V.Guarded.origin g.V.Guarded.history c.args.pass _ _ _ last.views home.1 count c.if-records-all.false)
