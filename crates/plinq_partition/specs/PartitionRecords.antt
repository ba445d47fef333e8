-- What a partition has: its records, and the keys that they say it got.
use Rattle.std.specs.Prelude.{◌≡◌, ℕ, ◌+◌, ◌≤◌, ◌&&◌, nat_le, List, [], ◌∷◌, Bool, true, false, Option, Some, None, refl}
use Rattle.plinq_source.specs.Trace.{Trace, open_trace}
use Rattle.plinq_keyed.specs.declared.event.Event.TheVariants.{Ask}
use Rattle.plinq_keyed.specs.declared.record.Record.{Record}
use Rattle.plinq_ticket.specs.declared.pass.Token.{Token}
use Rattle.plinq_ticket.specs.declared.ticket_lock.TicketLock.{TicketLock}
use Rattle.plinq_ticket.specs.Passes.{IsPassOf, pass_origin, pass_share, pass_drawn, pass_served}

-- records one after another, each of which begins where the one before it ended, or above
abbrev pub keys_rise_from : ℕ → List Record → Bool
keys_rise_from least [] = true
keys_rise_from least (r ∷ rs) = nat_le least r.first && keys_rise_from (r.first + r.count) rs

-- A pass of that lock has seen at least as many tickets drawn as requests of it were answered, and its keys rise
pub record IsPassAt {V T : Type 0} (lock : TicketLock V T) (requests : ℕ) (pass : Token V T) : Type 0 where
  pub of : IsPassOf lock pass
  pub counted : requests ≤ pass_drawn pass
  pub rising : keys_rise_from 0 (pass_share pass) ≡ true

module _ {V T : Type 0} where
  -- the pass is there
  abbrev pub IsAt : TicketLock V T → ℕ → Option (Token V T) → Type 0
  IsAt lock requests None = ⊥
  IsAt lock requests (Some pass) = IsPassAt lock requests pass

  -- what is handed out
  abbrev pub origin_at : Option (Token V T) → Trace T
  origin_at None = open_trace []
  origin_at (Some pass) = pass_origin pass

  -- the records of the pass
  abbrev pub share_at : Option (Token V T) → List Record
  share_at None = []
  share_at (Some pass) = pass_share pass

  -- how many tickets the pass has seen drawn
  abbrev pub drawn_at : Option (Token V T) → ℕ
  drawn_at None = 0
  drawn_at (Some pass) = pass_drawn pass

  -- how many tickets the pass has seen served
  abbrev pub served_at : Option (Token V T) → ℕ
  served_at None = 0
  served_at (Some pass) = pass_served pass

-- three records that say where they begin, each of two items; tickets don't matter here
abbrev beginning : ℕ → ℕ → ℕ → List Record
beginning i j k = of_two i ∷ of_two j ∷ of_two k ∷ []
  where
    of_two : ℕ → Record
    of_two first = record { ticket = 0; asked = Ask 2; first = first; count = 2; tail = None }

-- one begins where the one before it ended, and one above
row_rising : keys_rise_from 0 (beginning 0 2 6) ≡ true
row_rising = refl

row_given_twice : keys_rise_from 0 (beginning 0 1 6) ≡ false
row_given_twice = refl

row_falling : keys_rise_from 0 (beginning 4 0 6) ≡ false
row_falling = refl

row_below_the_least : keys_rise_from 1 (beginning 0 2 6) ≡ false
row_below_the_least = refl
