-- What holds while the value is home, and who is inside while it is out.
use Rattle.std.proofs.Common.{◌≡◌, ℕ, ◌≤◌, List, [], ◌∷◌, Option, Some, sym, ap, subst, ◌∙◌, arith, inl, inr}
use mathlib.Core.Option.{some, none, some-injective, some-ne-none}
use mathlib.Core.Option as maybe
use lib.ListN.{get_elem?}
use native.Mathlib.Decide.{ℕ_discrete}
use Rattle.plinq_source.specs.Trace.{Trace}
use Rattle.plinq_keyed.specs.declared.record.Record.{Record}
use Rattle.plinq_keyed.specs.History.{IsLegalHistory}
use Rattle.plinq_keyed.proofs.Legal.{IsPrefix-from_legal}
use Rattle.plinq_ticket.specs.Turns.{is_inside}
use Rattle.plinq_ticket.specs.Lawful.{standing_of, history_of, inside_of, Stands, FreeWhileHome, AloneInside}
use Rattle.plinq_ticket.proofs.Weights.{total-at}
use Rattle.plinq_ticket.proofs.Turns.{not_inside-beside}
use Rattle.plinq_ticket.proofs.LastState.{IsHome}

module _ {V T : Type 0} (origin : V → Trace T) (history : V → List Record) where
  home-is : (t : Trace T) (h : List Record) (homes : List (maybe.Option (Option V))) (inside : ℕ) (value : V) → Stands origin history t h homes inside
      → homes ≡ some (Some value) ∷ []
      → (origin value ≡ t) × (history value ≡ h)
  home-is t h homes inside value (inl home) is =
      let same : Some home.0 ≡ Some value = some-injective _ _ (some-injective _ _ (ap (λ l. get_elem? l 0) (sym home.1 ∙ is))) in
      subst (IsHome origin history t h) same (home.2, home.3)
  home-is t h homes inside value (inr out) is = absurd (some-ne-none (Some value) (some-injective _ _ (ap (λ l. get_elem? l 0) (sym is ∙ out.0))))

  pub free_while_home : FreeWhileHome origin history
  free_while_home t next serving homes views value law is =
      let home = home-is t (history_of views) homes (inside_of views) value law.stands is in
      let legal : IsLegalHistory t (history value) = subst (IsLegalHistory t) (sym home.1) law.legal in
      record { origin_is = home.0; whole = home.1; legal = legal; handed = IsPrefix-from_legal t (history value) legal }

  out-is : (t : Trace T) (h : List Record) (homes : List (maybe.Option (Option V))) (inside : ℕ) → Stands origin history t h homes inside → 1 ≤ inside
      → homes ≡ none ∷ []
  out-is t h homes inside (inl home) some_in = let none_in = home.4 in absurd (omega arith)
  out-is t h homes inside (inr out) some_in = out.0

  pub alone_inside : AloneInside origin history
  alone_inside t next serving homes views i j k n v w law at at' inside inside' =
      let one : is_inside v.standing.phase ≡ 1 = ap is_inside inside in
      let one' : is_inside w.standing.phase ≡ 1 = ap is_inside inside' in
      let first = (law.turns.each_fits i v at).first in
      let some_in = total-at (λ u. is_inside u.standing.phase) views i v at in (
        elim (ℕ_discrete j i) [
          | yes e ↦ e
          | no other ↦ let none_in = not_inside-beside standing_of next serving views i j v w law.turns at at' other (omega arith) in absurd (omega arith)
        ],
        out-is t (history_of views) homes (inside_of views) law.stands (omega arith),
      )
