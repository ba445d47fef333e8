-- What becomes of the text of a line.
use Rattle.std.specs.Prelude.{ℕ, Bool, if◌then◌else◌, List, Option, Some, None}
use Rattle.plinq_text.specs.declared.outcome.Outcome.{Outcome}
use Rattle.plinq_text.specs.declared.outcome.Outcome.TheVariants.{Changes, Gone, Text, Made}

-- the text that there is then, if any
abbrev pub text_of : Outcome → Option (List ℕ)
text_of Changes = None
text_of Gone = None
text_of (Text t) = Some t.now
text_of (Made t) = Some t.items

-- the same, if the step stays as it is
abbrev pub steady_of : Outcome → Option (Option (List ℕ))
steady_of Changes = None
steady_of Gone = Some None
steady_of (Text t) = Some (Some t.now)
steady_of (Made t) = Some (Some t.items)

-- a text that passes
abbrev pub kept_if : Bool → List ℕ → Option (List ℕ)
kept_if b text = if b then Some text else None
