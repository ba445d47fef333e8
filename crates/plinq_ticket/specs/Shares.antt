-- The records of passes, and the history that they are together.
use Rattle.std.specs.Prelude.{◌≡◌, ℕ, ◌≤◌, List, [], ◌∷◌, ◌++◌, length, drop, nat_le, if◌then◌else◌, ◌⊎◌, Some, refl}
use Rattle.plinq_keyed.specs.declared.event.Event.TheVariants.{Close}
use Rattle.plinq_keyed.specs.declared.record.Record.{Record}
use Rattle.plinq_keyed.specs.declared.tail.Tail.TheVariants.{Closed}
use Rattle.plinq_ticket.specs.Weights.{total}

-- records in the order of their tickets, and one more at its place
abbrev pub placed_records : Record → List Record → List Record
placed_records r [] = r ∷ []
placed_records r (x ∷ xs) = if nat_le r.ticket x.ticket then r ∷ x ∷ xs else x ∷ placed_records r xs

-- records in the order of their tickets
abbrev pub in_ticket_order : List Record → List Record
in_ticket_order [] = []
in_ticket_order (r ∷ rs) = placed_records r (in_ticket_order rs)

-- Each record of a share stands in a history, as often: however records are weighed, the share weighs no more
abbrev pub Contains : List Record → List Record → Type 0
Contains history share = (weight : Record → ℕ) → total weight share ≤ total weight history

-- the records that came after a history
abbrev pub added_records : List Record → List Record → List Record
added_records old new = drop (length old) new

-- at most one record came after a history, and it has that ticket
abbrev pub AddsAtMostOne : ℕ → List Record → List Record → Type 0
AddsAtMostOne ticket old new = (new ≡ old) ⊎ ((r : Record) × (new ≡ old ++ r ∷ []) × (r.ticket ≡ ticket))

-- a request to close at the start, under that ticket
abbrev pub closed_under : ℕ → Record
closed_under ticket = record { ticket = ticket; asked = Close; first = 0; count = 0; tail = Some Closed }

row_of_shares : in_ticket_order (closed_under 2 ∷ closed_under 0 ∷ closed_under 1 ∷ []) ≡ closed_under 0 ∷ closed_under 1 ∷ closed_under 2 ∷ []
row_of_shares = refl

row_added : added_records (closed_under 0 ∷ []) (closed_under 0 ∷ closed_under 1 ∷ []) ≡ closed_under 1 ∷ []
row_added = refl
