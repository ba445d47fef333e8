use Rattle.std.proofs.Common.{List, [], ◌∷◌, Option, sym, subst, refl}
use Rattle.atomic_table.specs.Table.{opening}
use Rattle.plinq_ticket.specs.TwoWords.{OfTwoWords}
use Rattle.plinq_ticket.specs.Lawful.{Lawful, first_view}
use Rattle.plinq_ticket.proofs.LockSteps.{opens}
use Rattle.plinq_ticket.proofs.ticket_lock.TicketLock.with_first_ticket.Goals as goal

pub new-requires : goal.new-requires
new-requires g c =
    let origin = g.V.Guarded.origin in
    let history = g.V.Guarded.history in
    let k = c.args.first in
    let P : List (Option g.row.V.Denot) × g.row.V.Denot → Type 0 =
    λ x. OfTwoWords (Lawful origin history (origin x.1)) (opening (k ∷ k ∷ []) x.0 (first_view (origin x.1) (history x.1))) in
    let about = c.of-about.ensures in
    let items = c.in_ok-slot.ensures.ok in
    subst P (λ i. (sym items i, sym about i)) (opens _ origin history c.args.value k refl c.records.ensures.legal c.requires.below c.requires.within)
