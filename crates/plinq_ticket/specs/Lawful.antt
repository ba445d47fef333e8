-- The lock between any two steps: tickets in turn, the value home or out, and a history that is the records of all passes.
use Rattle.std.specs.Prelude.{◌≡◌, ℕ, List, [], ◌∷◌, ◌++◌, Option, Some, None, true, length, ◌⊎◌, refl}
use Rattle.std.proofs.Common.{arith, ap, inl, inr}
use mathlib.Core.Option.{some, none}
use mathlib.Core.Option as maybe
use lib.ListN.{get_elem?}
use Rattle.plinq_source.specs.Trace.{Trace, open_trace}
use Rattle.plinq_keyed.specs.declared.record.Record.{Record}
use Rattle.plinq_keyed.specs.History.{IsLegalHistory, IsPrefix, tickets_below}
use Rattle.plinq_ticket.specs.declared.phase.Phase.{Phase}
use Rattle.plinq_ticket.specs.declared.phase.Phase.TheVariants.{Idle, Waiting, Inside, Joined}
use Rattle.plinq_ticket.specs.declared.standing.Standing.{Standing}
use Rattle.plinq_ticket.specs.declared.view.View.{View}
use Rattle.plinq_ticket.specs.Weights.{total}
use Rattle.plinq_ticket.specs.Turns.{InTurn, is_inside, newcomer}
use Rattle.plinq_ticket.specs.Shares.{in_ticket_order, closed_under}

module _ {T : Type 0} where
  -- where a pass stands, of what it knows
  abbrev pub standing_of : View T → Standing
  standing_of v = v.standing

  -- what the value hands out, as a pass knows it
  abbrev pub origin_in : View T → Trace T
  origin_in v = record { items = v.items; ending = v.ending }

  -- the records of all passes
  abbrev pub all_shares : List (View T) → List Record
  all_shares [] = []
  all_shares (v ∷ vs) = v.share ++ all_shares vs

  -- the history is the records of all passes, in the order of their tickets
  abbrev pub history_of : List (View T) → List Record
  history_of views = in_ticket_order (all_shares views)

  -- how many passes are inside
  abbrev pub inside_of : List (View T) → ℕ
  inside_of views = total (λ v. is_inside v.standing.phase) views

  -- What a pass knows is so: its trace is the lock's, and inside it found the history. A joined one has given its share away
  abbrev pub Knows : Trace T → List Record → View T → Phase → Type 0
  Knows t h v Idle = origin_in v ≡ t
  Knows t h v (Waiting k) = origin_in v ≡ t
  Knows t h v (Inside k) = (origin_in v ≡ t) × (v.found ≡ h)
  Knows t h v Joined = v.share ≡ []

  -- the first pass has the records that the value came with
  abbrev pub first_view : Trace T → List Record → View T
  first_view t h = record { standing = newcomer; items = t.items; ending = t.ending; found = []; share = h }

  module _ {V : Type 0} (origin : V → Trace T) (history : V → List Record) where
    -- where no pass is inside, the value is home, with that trace and history; else it is out
    abbrev pub Stands : Trace T → List Record → List (maybe.Option (Option V)) → ℕ → Type 0
    Stands t h homes inside =
        ((value : V) × (homes ≡ some (Some value) ∷ []) × (origin value ≡ t) × (history value ≡ h) × (inside ≡ 0))
        ⊎ ((homes ≡ none ∷ []) × (inside ≡ 1))

    -- Tickets are in turn, the records of all passes are a legal history under tickets that were served, the
    -- value stands with it, and what each pass knows is so
    pub record Lawful (t : Trace T) (next serving : ℕ) (homes : List (maybe.Option (Option V))) (views : List (View T)) : Type 0 where
      pub turns : InTurn standing_of next serving views
      pub legal : IsLegalHistory t (history_of views)
      pub below : tickets_below serving (history_of views) ≡ true
      pub stands : Stands t (history_of views) homes (inside_of views)
      pub knows : (i : ℕ) (v : View T) → get_elem? views i ≡ some v → Knows t (history_of views) v v.standing.phase

    -- While the value is home it hands out the lock's trace, and its history is the records of all passes, in the order of
    -- their tickets: one legal history, which has handed out a prefix of that trace
    pub record IsFree (t : Trace T) (value : V) (views : List (View T)) : Type 0 where
      pub origin_is : origin value ≡ t
      pub whole : history value ≡ history_of views
      pub legal : IsLegalHistory t (history value)
      pub handed : IsPrefix t (history value)

    -- in each lawful state with the value home, that value has handed out a prefix
    abbrev pub FreeWhileHome : Type 0
    FreeWhileHome = (t : Trace T) (next serving : ℕ) (homes : List (maybe.Option (Option V))) (views : List (View T)) (value : V)
        → Lawful t next serving homes views → homes ≡ some (Some value) ∷ [] → IsFree t value views

    -- of two passes that are inside one is the other, and the value is out
    abbrev pub AloneInside : Type 0
    AloneInside = (t : Trace T) (next serving : ℕ) (homes : List (maybe.Option (Option V))) (views : List (View T)) (i j k n : ℕ) (v w : View T)
        → Lawful t next serving homes views → get_elem? views i ≡ some v → get_elem? views j ≡ some w → v.standing.phase ≡ Inside k
        → w.standing.phase ≡ Inside n
        → (j ≡ i) × (homes ≡ none ∷ [])

-- the first pass of a lock whose value came with those records
abbrev with_records : List Record → View ℕ
with_records h = first_view (open_trace []) h

-- a pass in that place, with no records
abbrev standing_at : Phase → View ℕ
standing_at phase = record { standing = record { phase = phase; drawn = 6; served = 4 }; items = []; ending = None; found = []; share = [] }

-- the pass that was second by place was first by ticket
row_history : history_of (with_records (closed_under 1 ∷ closed_under 3 ∷ []) ∷ with_records (closed_under 0 ∷ []) ∷ [])
    ≡ closed_under 0 ∷ closed_under 1 ∷ closed_under 3 ∷ []
row_history = refl

-- of those that wait, are inside, and have nothing to do there, one is inside
row_inside : inside_of (standing_at (Waiting 5) ∷ standing_at (Inside 4) ∷ standing_at Idle ∷ []) ≡ 1
row_inside = refl

-- the first pass knows what the value hands out
row_first : Knows {T = ℕ} (open_trace (7 ∷ [])) [] (first_view (open_trace (7 ∷ [])) []) Idle
row_first = refl

-- a lock whose value is its history, round a source of which nothing was asked before it was closed
abbrev IsFreeWith : List Record → List (View ℕ) → Type 0
IsFreeWith value views = IsFree {T = ℕ} (λ _. open_trace (7 ∷ [])) (λ h. h) (open_trace (7 ∷ [])) value views

-- the records of two passes are the value's, by their tickets
row_free : IsFreeWith (closed_under 0 ∷ closed_under 1 ∷ []) (with_records (closed_under 1 ∷ []) ∷ with_records (closed_under 0 ∷ []) ∷ [])
row_free = record { origin_is = refl; whole = refl; legal = refl; handed = record { prefix = refl; within = omega arith } }

-- a value that has lost a record of a pass
row_lost_record : IsFreeWith (closed_under 0 ∷ []) (with_records (closed_under 1 ∷ []) ∷ with_records (closed_under 0 ∷ []) ∷ []) → ⊥
row_lost_record free = omega (arith, ap length free.whole)

-- one that has a record of no pass
row_foreign_record : IsFreeWith (closed_under 0 ∷ closed_under 1 ∷ []) (with_records (closed_under 0 ∷ []) ∷ []) → ⊥
row_foreign_record free = omega (arith, ap length free.whole)

-- between no two steps are two passes inside, under one ticket or under two
row_two_inside : (k n : ℕ) → (homes : List (maybe.Option (Option (List Record))))
    → Lawful {T = ℕ} (λ _. open_trace []) (λ h. h) (open_trace []) 6 4 homes (standing_at (Inside k) ∷ standing_at (Inside n) ∷ []) → ⊥
row_two_inside k n homes lawful = two (lawful.stands)
  where
    two : Stands {T = ℕ} (λ _. open_trace []) (λ h. h) (open_trace []) [] homes 2 → ⊥
    two (inl home) = let none_inside : 2 ≡ 0 = home.4 in omega (arith, none_inside)
    two (inr away) = let one_inside : 2 ≡ 1 = away.1 in omega (arith, one_inside)

-- nor is the value home while a pass is inside
row_home_while_inside : (value : List Record) → Lawful {T = ℕ} (λ _. open_trace []) (λ h. h) (open_trace []) 5 4 (some (Some value) ∷ [])
    (standing_at (Inside 4) ∷ []) → ⊥
row_home_while_inside value lawful = home_too lawful.stands
  where
    home_too : Stands {T = ℕ} (λ _. open_trace []) (λ h. h) (open_trace []) [] (some (Some value) ∷ []) 1 → ⊥
    home_too (inl home) = let none_inside : 1 ≡ 0 = home.4 in omega (arith, none_inside)
    home_too (inr away) = let same = away.0 in absurd (cc)
