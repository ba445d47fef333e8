-- What becomes of a lock that is taken apart.
use Rattle.std.specs.Prelude.{◌≡◌, ℕ, ◌<◌, List, length, Option, Some, None, Result, Ok, Err}
use mathlib.Core.Option.{some}
use mathlib.Core.Option as maybe
use lib.ListN.{get_elem?}
use Rattle.plinq_source.specs.Trace.{Trace}
use Rattle.plinq_keyed.specs.declared.record.Record.{Record}
use Rattle.plinq_ticket.specs.declared.view.View.{View}
use Rattle.plinq_ticket.specs.declared.pass.Token.{Token}
use Rattle.plinq_ticket.specs.declared.lock_fault.LockFault.{LockFault}
use Rattle.plinq_ticket.specs.declared.lock_fault.LockFault.TheVariants.{Incomplete, Away}
use Rattle.plinq_ticket.specs.Shares.{in_ticket_order, Contains}
use Rattle.plinq_ticket.specs.Lawful.{Lawful}
use Rattle.plinq_ticket.specs.Passes.{pass_origin, pass_share}

module _ {V T : Type 0} (origin : V → Trace T) (history : V → List Record) (p : Token V T) where
  -- the value is given back, and its records are those of the pass
  pub record IsWhole (value : V) : Type 0 where
    pub origin_is : origin value ≡ pass_origin p
    pub history_is : history value ≡ in_ticket_order (pass_share p)

  -- the value comes back, and has more records than the pass
  pub record IsIncomplete (value : V) (have all : ℕ) : Type 0 where
    pub origin_is : origin value ≡ pass_origin p
    pub have_is : have ≡ length (pass_share p)
    pub all_is : all ≡ length (history value)
    pub missing : have < all
    pub contains : Contains (history value) (pass_share p)

  -- what is refused: the value is away where a pass waits or is inside; else it comes back
  abbrev pub IsRefusal : (next serving : ℕ) → Option V → LockFault → Type 0
  IsRefusal next serving None Away = serving < next
  IsRefusal next serving None _ = ⊥
  IsRefusal next serving (Some value) (Incomplete have all) = (serving ≡ next) × IsIncomplete value have all
  IsRefusal next serving (Some value) _ = ⊥

  -- the answer, by the numbers of the lock's last state
  abbrev pub IsAnswer : (next serving : ℕ) → Result V (Option V × LockFault) → Type 0
  IsAnswer next serving (Ok value) = (serving ≡ next) × IsWhole value
  IsAnswer next serving (Err refused) = IsRefusal next serving refused.0 refused.1

  -- The lock was taken apart at a state that its law allows, in which the pass has its view
  pub record IsFinished (result : Result V (Option V × LockFault)) : Type 0 where
    pub next : ℕ
    pub serving : ℕ
    pub homes : List (maybe.Option (Option V))
    pub views : List (View T)
    pub lawful : Lawful origin history (pass_origin p) next serving homes views
    pub seat : get_elem? views p.seat.id ≡ some p.seat.me.0
    pub answer : IsAnswer next serving result
