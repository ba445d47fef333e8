-- A table with one word.
use Rattle.std.specs.Prelude.{◌≡◌, ℕ, List, [], ◌∷◌}
use Rattle.atomic_table.specs.Table.{State}

-- a fact of the word and of all views
abbrev pub Fact : Type 0 → Type 1
Fact V = ℕ → List V → Type 0

pub record OfOneWord {S V : Type 0} (holds : Fact V) (s : State S V) : Type 0 where
  pub word : ℕ
  pub words : s.words ≡ word ∷ []
  pub fact : holds word s.views
