-- What a step owes to a table of two words, as a goal about two numbers.
use Rattle.std.proofs.Common.{◌≡◌, ℕ, List, [], ◌∷◌, length, get_or, set, sym, refl, subst}
use mathlib.Core.Option.{Option, some}
use lib.ListN.{get_elem?}
use Rattle.atomic_table.specs.Table.{Me, Act, Valid, homes_after, carried_after, Allows}
use Rattle.plinq_ticket.specs.TwoWords.{Fact, OfTwoWords}

module _ {S V : Type 0} (holds : Fact S V) where
  -- the step changes the first number by f
  pub allows-next : (slots id : ℕ) (me : Me S V) (f : ℕ → ℕ) (then : ℕ → Me S V → Type 0)
      → ((next serving : ℕ) (homes : List (Option S)) (views : List V) → holds next serving homes views → length homes ≡ slots → get_elem? views id ≡ some me.0
      → (w : V) × (a : Act S) × Valid homes me.1 a × holds (f next) serving (homes_after homes me.1 a) (set views id w) × then next (w, carried_after me.1 a))
      → Allows (OfTwoWords holds) slots id me 0 f then
  allows-next slots id me f then owed s kept size at small =
      let P : List ℕ → Type 0 = λ ws.
      (w : V) × (a : Act S) × Valid s.homes me.1 a
      × OfTwoWords holds (record { words = set ws 0 (f (get_or ws 0 0)); homes = homes_after s.homes me.1 a; views = set s.views id w })
      × then (get_or ws 0 0) (w, carried_after me.1 a) in
      let g = owed kept.next kept.serving s.homes s.views kept.fact size at in
      let done : P (kept.next ∷ kept.serving ∷ []) = (g.0, g.1, g.2, record { next = f kept.next; serving = kept.serving; words = refl; fact = g.3 }, g.4) in
      subst P (sym kept.words) done

  -- the step changes the second number by f
  pub allows-serving : (slots id : ℕ) (me : Me S V) (f : ℕ → ℕ) (then : ℕ → Me S V → Type 0)
      → ((next serving : ℕ) (homes : List (Option S)) (views : List V) → holds next serving homes views → length homes ≡ slots → get_elem? views id ≡ some me.0
      → (w : V) × (a : Act S) × Valid homes me.1 a × holds next (f serving) (homes_after homes me.1 a) (set views id w)
      × then serving (w, carried_after me.1 a))
      → Allows (OfTwoWords holds) slots id me 1 f then
  allows-serving slots id me f then owed s kept size at small =
      let P : List ℕ → Type 0 = λ ws.
      (w : V) × (a : Act S) × Valid s.homes me.1 a
      × OfTwoWords holds (record { words = set ws 1 (f (get_or ws 1 0)); homes = homes_after s.homes me.1 a; views = set s.views id w })
      × then (get_or ws 1 0) (w, carried_after me.1 a) in
      let g = owed kept.next kept.serving s.homes s.views kept.fact size at in
      let done : P (kept.next ∷ kept.serving ∷ []) = (g.0, g.1, g.2, record { next = kept.next; serving = f kept.serving; words = refl; fact = g.3 }, g.4) in
      subst P (sym kept.words) done
