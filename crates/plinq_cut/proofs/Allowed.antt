-- What a step owes to a table of one word, as a goal about that word and the views.
use Rattle.std.proofs.Common.{◌≡◌, ℕ, List, [], ◌∷◌, get_or, set, sym, refl, subst}
use mathlib.Core.Option.{some}
use lib.ListN.{get_elem?}
use Rattle.atomic_table.specs.Table.{Me, Act, keeps, Valid, homes_after, carried_after, Allows}
use Rattle.plinq_cut.specs.inner.OneWord.{Fact, OfOneWord}

-- the word becomes f of what it was, and the pass has another view
pub allows-word : {S V : Type 0} (holds : Fact V) (slots id : ℕ) (me : Me S V) (f : ℕ → ℕ) (then : ℕ → Me S V → Type 0)
    → ((word : ℕ) (views : List V) → holds word views → get_elem? views id ≡ some me.0 → (w : V) × holds (f word) (set views id w) × then word (w, me.1))
    → Allows (OfOneWord holds) slots id me 0 f then
allows-word {S} {V} holds slots id me f then owed s kept size at small =
    let P : List ℕ → Type 0 = λ ws.
    (w : V) × (a : Act S) × Valid s.homes me.1 a
    × OfOneWord holds (record { words = set ws 0 (f (get_or ws 0 0)); homes = homes_after s.homes me.1 a; views = set s.views id w })
    × then (get_or ws 0 0) (w, carried_after me.1 a) in
    let g = owed kept.word s.views kept.fact at in
    let done : P (kept.word ∷ []) = (g.0, keeps, tt, record { word = f kept.word; words = refl; fact = g.1 }, g.2) in
    subst P (sym kept.words) done
