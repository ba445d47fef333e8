-- Lines by which no step changes: what is made of each depends on it alone, so any worker can make it.
use Rattle.std.specs.Prelude.{◌≡◌, ℕ, ◌==◌, ◌||◌, ◌&&◌, Bool, true, false, if◌then◌else◌, List, [], ◌∷◌, ◌++◌, Option, Some, None, option_map}
use Rattle.std.specs.List.{cons_option}
use Rattle.plinq_text.specs.declared.line_step.LineStep.{LineStep}
use Rattle.plinq_text.specs.declared.line_step.LineStep.TheVariants.{Filter, Select, Take, Skip, TakeWhile, SkipWhile, Distinct, Check, Failed}
use Rattle.plinq_text.specs.Lines.{Line, written}
use Rattle.plinq_text.specs.Steps.{does, passes, with_text}

-- whether a step is as it was once a line of this text came to it
abbrev pub stays : LineStep → List ℕ → Bool
stays (Filter t) text = true
stays (Select f) text = true
stays (Take n) text = n == 0
stays (Skip n) text = n == 0
stays (TakeWhile t) text = passes t text
stays (SkipWhile t) text = passes t text
stays (Distinct k) text = false
stays (Check t) text = passes t text
stays Failed text = true

-- whether a step changes by few lines, or by none
abbrev pub is_steady : LineStep → Bool
is_steady (Filter t) = true
is_steady (Select f) = true
is_steady (Take n) = false
is_steady (Skip n) = n == 0
is_steady (TakeWhile t) = true
is_steady (SkipWhile t) = true
is_steady (Distinct k) = false
is_steady (Check t) = true
is_steady Failed = false

-- whether each of these steps does
abbrev pub are_steady : List LineStep → Bool
are_steady [] = true
are_steady (s ∷ ss) = is_steady s && are_steady ss

-- whether a line may fail a step, or did
abbrev pub is_check : LineStep → Bool
is_check (Filter t) = false
is_check (Select f) = false
is_check (Take n) = false
is_check (Skip n) = false
is_check (TakeWhile t) = false
is_check (SkipWhile t) = false
is_check (Distinct k) = false
is_check (Check t) = true
is_check Failed = true

-- whether there is such a step
abbrev pub has_check : List LineStep → Bool
has_check [] = false
has_check (s ∷ ss) = is_check s || has_check ss

-- what a step makes of a text, if it stays as it is: a text or, if the line doesn't pass, none
abbrev pub steady_one : LineStep → List ℕ → Option (Option (List ℕ))
steady_one s text = if stays s text then Some (does s text) else None

-- later steps, if the line came through the first
abbrev pub then_row : (List ℕ → Option (Option (List ℕ))) → Option (Option (List ℕ)) → Option (Option (List ℕ))
then_row later None = None
then_row later (Some None) = Some None
then_row later (Some (Some text)) = later text

-- what a row of steps makes of the text of one line, if each stays as it is
unfoldable pub row_steady : List LineStep → List ℕ → Option (Option (List ℕ))
row_steady [] text = Some (Some text)
row_steady (s ∷ ss) text = then_row (row_steady ss) (steady_one s text)

-- a line with the text that is made of it, in front of the others
abbrev pub with_line : Line → Option (Option (List ℕ)) → Option (List Line) → Option (List Line)
with_line l None ls = None
with_line l (Some made) None = None
with_line l (Some made) (Some ls) = Some (cons_option (option_map (with_text l) made) ls)

-- what is made of lines, if something is made of each
abbrev pub made_steady : (List ℕ → Option (Option (List ℕ))) → List Line → Option (List Line)
made_steady f [] = Some []
made_steady f (l ∷ ls) = with_line l (f l.text) (made_steady f ls)

-- what steps make of lines, if each stays as it is
abbrev pub steady_lines : List LineStep → List Line → Option (List Line)
steady_lines ss ls = made_steady (row_steady ss) ls

-- what is made of lines is appended, if something is
abbrev pub AreMade : Option (List Line) → List ℕ → List ℕ → Bool → Type 0
AreMade None old new stay = stay ≡ false
AreMade (Some made) old new stay = (stay ≡ true) × (new ≡ old ++ written made)
