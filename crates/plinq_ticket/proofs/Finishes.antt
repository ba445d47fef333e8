-- What `finish` answers, from the state in which the lock was taken apart.
use Rattle.std.proofs.Common.{◌≡◌, ℕ, ◌-◌, ◌^◌, ◌<◌, ◌≤◌, min, List, length, Option, Some, Result, sym, ap, ◌∙◌, arith, subst}
use Rattle.plinq_source.specs.Trace.{Trace}
use Rattle.plinq_keyed.specs.declared.record.Record.{Record}
use Rattle.plinq_ticket.specs.declared.lock_fault.LockFault.{LockFault}
use Rattle.plinq_ticket.specs.declared.pass.Token.{Token}
use Rattle.plinq_ticket.specs.declared.view.View.{View}
use Rattle.plinq_ticket.specs.Finished.{IsAnswer, IsFinished, IsIncomplete, IsWhole}
use Rattle.plinq_ticket.specs.Passes.{pass_share}
use Rattle.plinq_ticket.specs.Shares.{Contains}
use Rattle.plinq_ticket.proofs.LastState.{Counted, Last, counted-from_last, history_of-whole}

module _ {V T : Type 0} (origin : V → Trace T) (history : V → List Record) (p : Token V T) where
  -- the state in which the lock was taken apart answers for what is reported
  pub finished-by : (drawn served : ℕ) (slot : Option V) (result : Result V (Option V × LockFault))
      → Last origin history p.seat.id p.seat.me.0 drawn served slot → IsAnswer origin history p drawn served result
      → IsFinished origin history p result
  finished-by drawn served slot result last answer =
      record {
        next = drawn;
        serving = served;
        homes = last.homes;
        views = last.views;
        lawful = last.lawful;
        seat = last.seat;
        answer = answer;
      }

  -- where all tickets are served the value is home, and the pass's count is exact
  pub home-from_last : (drawn served : ℕ) (slot : Option V) (value : V) (records : ℕ) (last : Last origin history p.seat.id p.seat.me.0 drawn served slot)
      → drawn ≤ served → slot ≡ Some value
      → length (history value) < 2 ^ 64 → records ≡ min (length (pass_share p)) (2 ^ 64 - 1)
      → (served ≡ drawn) × Counted origin history p.seat.me.0 value records last.views
  home-from_last drawn served slot value records last past is small count =
      let order = last.lawful.turns.order in
      let all : served ≡ drawn = omega (arith, order, past) in
      (all, counted-from_last origin history p.seat.id p.seat.me.0 drawn served slot value records last all is small count)

  -- a pass that has as many records as the value has all of them
  pub whole-from_last : (drawn served : ℕ) (slot : Option V) (value : V) (records : ℕ) (last : Last origin history p.seat.id p.seat.me.0 drawn served slot)
      → Counted origin history p.seat.me.0 value records last.views
      → records ≡ length (history value) → IsWhole origin history p value
  whole-from_last drawn served slot value records last counted same =
      record {
        origin_is = counted.origin_is;
        history_is =
            counted.history_is
            ∙ history_of-whole _ last.views p.seat.id p.seat.me.0 last.lawful.legal last.seat (sym counted.exact ∙ same ∙ ap length counted.history_is);
      }

  -- one that has another number has fewer
  pub incomplete-from_last : (value : V) (records all : ℕ) (views : List (View T)) → Counted origin history p.seat.me.0 value records views
      → all ≡ length (history value) → (records ≡ all → ⊥)
      → IsIncomplete origin history p value records all
  incomplete-from_last value records all views counted count differ =
      let whole = ap length counted.history_is in
      record {
        origin_is = counted.origin_is;
        have_is = counted.exact;
        all_is = count;
        missing = omega (arith, counted.exact, count, whole, counted.fewer, differ);
        contains = let P : List Record → Type 0 = λ h. Contains h (pass_share p) in subst P (sym counted.history_is) counted.contains;
      }
