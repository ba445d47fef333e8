-- What each step reports to the pass that makes it: its view and its slot before and after.
use Rattle.std.specs.Prelude.{◌≡◌, ◌≢◌, ℕ, List, [], ◌∷◌, ◌++◌, Option, Some, None, true, refl}
use Rattle.atomic_table.specs.Table.{Me, rest}
use Rattle.plinq_source.specs.Trace.{Trace, open_trace}
use Rattle.plinq_keyed.specs.declared.record.Record.{Record}
use Rattle.plinq_keyed.specs.History.{IsLegalHistory, tickets_below}
use Rattle.plinq_ticket.specs.declared.phase.Phase.{Phase}
use Rattle.plinq_ticket.specs.declared.phase.Phase.TheVariants.{Idle, Waiting, Inside, Joined}
use Rattle.plinq_ticket.specs.declared.standing.Standing.{Standing}
use Rattle.plinq_ticket.specs.declared.view.View.{View}
use Rattle.plinq_ticket.specs.Turns.{SawNext, SawDrawn, SawServing, joined_standing, idle_standing, together}
use Rattle.plinq_ticket.specs.Shares.{Contains, AddsAtMostOne, added_records, closed_under}
use Rattle.plinq_ticket.specs.Lawful.{origin_in, first_view}

module _ {V : Type 0} where
  -- the records of a value, and none of none
  abbrev pub records_in : (V → List Record) → Option V → List Record
  records_in history (Some value) = history value
  records_in history None = []

  -- the records of the value in the slot that was taken last
  abbrev pub slot_records : (V → List Record) → List (ℕ × Option V) → List Record
  slot_records history [] = []
  slot_records history (x ∷ xs) = records_in history x.1

module _ {T : Type 0} where
  -- the same pass in another place
  abbrev pub standing_so : Standing → View T → View T
  standing_so a v = record { standing = a; items = v.items; ending = v.ending; found = v.found; share = v.share }

  -- a new pass: it has seen as much, and has no share
  abbrev pub cut_view : View T → View T
  cut_view v = record { standing = v.standing; items = v.items; ending = v.ending; found = []; share = [] }

  -- two passes as one
  abbrev pub together_with : View T → View T → View T
  together_with v w = record { standing = together v.standing w.standing; items = v.items; ending = v.ending; found = []; share = v.share ++ w.share }

  -- a pass that another one has taken in
  abbrev pub spent_view : View T
  spent_view = record { standing = joined_standing; items = []; ending = None; found = []; share = [] }

  -- a pass that has come inside, where it found that history
  abbrev pub inside_with : List Record → Standing → View T → View T
  inside_with h a v = record { standing = a; items = v.items; ending = v.ending; found = h; share = v.share }

  -- a pass that has left, with records that came to its share
  abbrev pub left_with : List Record → Standing → View T → View T
  left_with new a v = record { standing = a; items = v.items; ending = v.ending; found = []; share = v.share ++ new }

  module _ {V : Type 0} where
    -- nothing changed but what the pass has seen
    pub record SeesNext (n : ℕ) (a b : Me (Option V) (View T)) : Type 0 where
      pub saw : SawNext n a.0.standing b.0.standing
      pub view : b.0 ≡ standing_so b.0.standing a.0
      pub slot : b.1 ≡ a.1

    pub record Draws (t n : ℕ) (a b : Me (Option V) (View T)) : Type 0 where
      pub saw : SawDrawn t n a.0.standing b.0.standing
      pub view : b.0 ≡ standing_so b.0.standing a.0
      pub slot : b.1 ≡ a.1

    -- A pass is inside with that ticket: the slot is its own, and the value there is as all passes left it
    pub record IsInside (origin : V → Trace T) (history : V → List Record) (n : ℕ) (a : Me (Option V) (View T)) : Type 0 where
      pub value : V
      pub phase : a.0.standing.phase ≡ Inside n
      pub slot : a.1 ≡ (0, Some value) ∷ []
      pub origin_is : origin value ≡ origin_in a.0
      pub history_is : history value ≡ a.0.found
      pub legal : IsLegalHistory (origin_in a.0) a.0.found
      pub contains : Contains a.0.found a.0.share
      pub below : tickets_below n a.0.found ≡ true

    -- a pass that waits comes inside where its ticket is the one that is served; else nothing changes but what it has seen
    abbrev pub Goes : (V → Trace T) → (V → List Record) → ℕ → Me (Option V) (View T) → Me (Option V) (View T) → Phase → Type 0
    Goes origin history n a b Idle = b.1 ≡ a.1
    Goes origin history n a b (Waiting t) = (t ≡ n → a.1 ≡ [] → IsInside origin history n b) × (t ≢ n → b.1 ≡ a.1)
    Goes origin history n a b (Inside t) = b.1 ≡ a.1
    Goes origin history n a b Joined = b.1 ≡ a.1

    pub record SeesServing (origin : V → Trace T) (history : V → List Record) (n : ℕ) (a b : Me (Option V) (View T)) : Type 0 where
      pub saw : SawServing n a.0.standing b.0.standing
      pub view : b.0 ≡ inside_with b.0.found b.0.standing a.0
      pub goes : Goes origin history n a b a.0.standing.phase

    -- a pass may leave with the value in its slot
    pub record Returns (origin : V → Trace T) (history : V → List Record) (ticket : ℕ) (a : Me (Option V) (View T)) : Type 0 where
      pub value : V
      pub slot : a.1 ≡ (0, Some value) ∷ []
      pub origin_is : origin value ≡ origin_in a.0
      pub adds : AddsAtMostOne ticket a.0.found (history value)
      pub legal : IsLegalHistory (origin value) (history value)

    -- a pass that leaves takes the records that it added into its share
    pub record Leaves (history : V → List Record) (n : ℕ) (a b : Me (Option V) (View T)) : Type 0 where
      pub view : b.0 ≡ left_with (added_records a.0.found (slot_records history a.1)) (idle_standing n a.0.standing) a.0
      pub slot : b.1 ≡ rest a.1

-- a pass with those records
abbrev with_records : List Record → View ℕ
with_records h = first_view (open_trace []) h

-- a new pass has no records, and the two together have those of the one that was cut
row_cut : (cut_view (with_records (closed_under 0 ∷ []))).share ≡ []
row_cut = refl

row_together : together_with (with_records (closed_under 0 ∷ [])) (cut_view (with_records (closed_under 0 ∷ []))) ≡ with_records (closed_under 0 ∷ [])
row_together = refl

-- what the value has more than was found becomes the pass's own
row_left : left_with (added_records (closed_under 0 ∷ []) (closed_under 0 ∷ closed_under 2 ∷ [])) (idle_standing 3 (with_records []).standing)
    (with_records (closed_under 1 ∷ []))
    ≡ standing_so (idle_standing 3 (with_records []).standing) (with_records (closed_under 1 ∷ closed_under 2 ∷ []))
row_left = refl

-- the slot's value is read, and none is read where it is out
row_slot : slot_records (λ h. h) ((0, Some (closed_under 4 ∷ [])) ∷ []) ≡ closed_under 4 ∷ []
row_slot = refl

row_empty_slot : slot_records (λ h. h) ((0, None) ∷ []) ≡ []
row_empty_slot = refl
