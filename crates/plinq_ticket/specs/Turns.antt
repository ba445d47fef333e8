-- Tickets that are drawn and served in turn: what holds between any two steps of any passes, and what a step does to the one that makes it.
use Rattle.std.specs.Prelude.{◌≡◌, ℕ, ◌+◌, ◌^◌, ◌≤◌, ◌==◌, ◌&&◌, max, nat_le, nat_lt, if◌then◌else◌, List, refl}
use mathlib.Core.Option.{some}
use lib.ListN.{get_elem?}
use Rattle.plinq_ticket.specs.declared.phase.Phase.{Phase}
use Rattle.plinq_ticket.specs.declared.phase.Phase.TheVariants.{Idle, Waiting, Inside, Joined}
use Rattle.plinq_ticket.specs.declared.standing.Standing.{Standing}
use Rattle.plinq_ticket.specs.Weights.{total}

-- tickets are the numbers below this one
abbrev pub tickets_end : ℕ
tickets_end = 2 ^ 62

-- 1 where a pass waits or is inside with that ticket, and else 0
abbrev pub has_ticket : ℕ → Phase → ℕ
has_ticket k Idle = 0
has_ticket k (Waiting t) = if t == k then 1 else 0
has_ticket k (Inside t) = if t == k then 1 else 0
has_ticket k Joined = 0

-- 1 where a pass is inside, and else 0
abbrev pub is_inside : Phase → ℕ
is_inside Idle = 0
is_inside (Waiting t) = 0
is_inside (Inside t) = 1
is_inside Joined = 0

-- 1 for each number from serving up to, and not with, next, and else 0
abbrev pub is_open : ℕ → ℕ → ℕ → ℕ
is_open serving next k = if nat_le serving k && nat_lt k next then 1 else 0

-- a pass has seen no more than there is, and is inside only with the ticket that is served
pub record Fits (next serving : ℕ) (a : Standing) : Type 0 where
  pub drawn : a.drawn ≤ next
  pub served : a.served ≤ serving
  pub first : is_inside a.phase ≤ has_ticket serving a.phase

-- The tickets of those that wait or are inside are the numbers from serving up to, and not with, next, each once
pub record InTurn {V : Type 0} (standing : V → Standing) (next serving : ℕ) (views : List V) : Type 0 where
  pub order : serving ≤ next
  pub within : next ≤ tickets_end
  pub each_once : (k : ℕ) → total (λ v. has_ticket k (standing v).phase) views ≡ is_open serving next k
  pub each_fits : (i : ℕ) (v : V) → get_elem? views i ≡ some v → Fits next serving (standing v)

-- a pass that has seen nothing yet
abbrev pub newcomer : Standing
newcomer = record { phase = Idle; drawn = 0; served = 0 }

-- a pass that another one has taken in
abbrev pub joined_standing : Standing
joined_standing = record { phase = Joined; drawn = 0; served = 0 }

-- a pass that has seen so many drawn
abbrev pub with_drawn : ℕ → Standing → Standing
with_drawn n a = record { phase = a.phase; drawn = n; served = a.served }

-- a pass that has drawn that ticket
abbrev pub with_ticket : ℕ → Standing → Standing
with_ticket t a = record { phase = Waiting t; drawn = t + 1; served = a.served }

-- its turn has come where its ticket is served
abbrev pub called_phase : ℕ → Phase → Phase
called_phase n Idle = Idle
called_phase n (Waiting t) = if t == n then Inside t else Waiting t
called_phase n (Inside t) = Inside t
called_phase n Joined = Joined

-- a pass that has seen so many served
abbrev pub with_served : ℕ → Standing → Standing
with_served n a = record { phase = called_phase n a.phase; drawn = a.drawn; served = n }

-- a pass that has left, after which that ticket is served
abbrev pub idle_standing : ℕ → Standing → Standing
idle_standing n a = record { phase = Idle; drawn = a.drawn; served = n }

-- what two passes know together
abbrev pub together : Standing → Standing → Standing
together a b = record { phase = Idle; drawn = max a.drawn b.drawn; served = max a.served b.served }

-- no ticket that waits is below the number served
abbrev pub NotPassed : ℕ → Phase → Type 0
NotPassed n Idle = Unit {0}
NotPassed n (Waiting t) = n ≤ t
NotPassed n (Inside t) = n ≡ t
NotPassed n Joined = Unit {0}

-- what a load of `next` reports: n were drawn
pub record SawNext (n : ℕ) (a b : Standing) : Type 0 where
  pub risen : a.drawn ≤ n
  pub within : n ≤ tickets_end
  pub after : b ≡ with_drawn n a

-- what a compare-exchange of `next` from t reports, which found n
pub record SawDrawn (t n : ℕ) (a b : Standing) : Type 0 where
  pub risen : a.drawn ≤ n
  pub order : a.served ≤ n
  pub within : n ≤ tickets_end
  pub after : b ≡ (if n == t then with_ticket t a else with_drawn n a)

-- what a load of `serving` reports: n were served
pub record SawServing (n : ℕ) (a b : Standing) : Type 0 where
  pub risen : a.served ≤ n
  pub within : n ≤ tickets_end
  pub turn : NotPassed n a.phase
  pub after : b ≡ with_served n a

-- what a store of `serving` reports
pub record SawLeft (n : ℕ) (a b : Standing) : Type 0 where
  pub after : b ≡ idle_standing n a

-- tickets 3 and 4 are open where 3 is served and 5 is the next
row_served : is_open 3 5 3 ≡ 1
row_served = refl

row_next : is_open 3 5 5 ≡ 0
row_next = refl

row_left : is_open 3 5 2 ≡ 0
row_left = refl

-- a pass that waits comes inside at its own ticket alone
row_called : called_phase 4 (Waiting 4) ≡ Inside 4
row_called = refl

row_passed_over : called_phase 3 (Waiting 4) ≡ Waiting 4
row_passed_over = refl
