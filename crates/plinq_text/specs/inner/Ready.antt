-- Steps made ready for many lines.
use Rattle.std.specs.Prelude.{◌≡◌, ℕ, not, Bool, true, false, if◌then◌else◌, List, [], ◌∷◌, ◌++◌, Option, Some, None, ⊤}
use Rattle.plinq_text.specs.declared.ready.ReadyStep.{ReadyStep}
use Rattle.plinq_text.specs.declared.ready.ReadyStep.TheVariants.{Search, SearchNot, Test, While, Until, Parts, Pass}
use Rattle.plinq_text.specs.Fields.{fields_of}
use Rattle.plinq_text.specs.inner.Outcomes.{kept_if}
use Rattle.plinq_text.specs.Steady.{then_row}
use Rattle.plinq_text.specs.StepPatterns.{pattern_of}
use Rattle.plinq_text.specs.Steps.{bytes_of, contains, passes}

-- what a ready step makes of the text of one line, if the step stays as it is
abbrev pub does_ready : ReadyStep → List ℕ → Option (Option (List ℕ))
does_ready (Search bytes) text = Some (kept_if (contains bytes text) text)
does_ready (SearchNot bytes) text = Some (kept_if (not (contains bytes text)) text)
does_ready (Test t) text = Some (kept_if (passes t.test.now text) text)
does_ready (While t) text = if passes t.test.now text then Some (Some text) else None
does_ready (Until t) text = if passes t.test.now text then Some None else None
does_ready (Parts f) text = Some (Some (fields_of f.now text))
does_ready Pass text = Some (Some text)

-- what searches for the pattern of a ready step's test searches for that one
abbrev pub IsReady : ReadyStep → Type 0
IsReady (Search bytes) = ⊤
IsReady (SearchNot bytes) = ⊤
IsReady (Test t) = t.searcher ≡ pattern_of t.test.now
IsReady (While t) = t.searcher ≡ pattern_of t.test.now
IsReady (Until t) = t.searcher ≡ pattern_of t.test.now
IsReady (Parts f) = ⊤
IsReady Pass = ⊤

-- what ready steps make of the text of one line, if each stays as it is
unfoldable pub row_ready : List ReadyStep → List ℕ → Option (Option (List ℕ))
row_ready [] text = Some (Some text)
row_ready (s ∷ ss) text = then_row (row_ready ss) (does_ready s text)

-- what is made of a line is appended, if something is
abbrev pub IsLineMade : Option (Option (List ℕ)) → List ℕ → List ℕ → List ℕ → Bool → Type 0
IsLineMade None end old new stay = stay ≡ false
IsLineMade (Some made) end old new stay = (stay ≡ true) × (new ≡ old ++ bytes_of made end)
