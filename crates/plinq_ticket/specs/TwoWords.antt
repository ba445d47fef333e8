-- A table with two words, of which the first counts the tickets drawn and the second those served.
use Rattle.std.specs.Prelude.{◌≡◌, ℕ, List, [], ◌∷◌}
use Rattle.atomic_table.specs.Table.{State}
use mathlib.Core.Option.{Option}

-- a fact of the two numbers, the values at home and all views
abbrev pub Fact : Type 0 → Type 0 → Type 1
Fact S V = ℕ → ℕ → List (Option S) → List V → Type 0

-- a table of two numbers of which a fact holds
pub record OfTwoWords {S V : Type 0} (holds : Fact S V) (s : State S V) : Type 0 where
  pub next : ℕ
  pub serving : ℕ
  pub words : s.words ≡ next ∷ serving ∷ []
  pub fact : holds next serving s.homes s.views
