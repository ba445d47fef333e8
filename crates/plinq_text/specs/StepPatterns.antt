-- The patterns of the tests of steps.
use Rattle.std.specs.Prelude.{◌≡◌, ℕ, ◌||◌, Bool, false, List, [], ◌∷◌, Option, Some, None, is_some, string_bytes, ⊤}
use Rattle.plinq_text.specs.declared.line_step.LineStep.{LineStep}
use Rattle.plinq_text.specs.declared.line_step.LineStep.TheVariants.{Filter, Select, Take, Skip, TakeWhile, SkipWhile, Distinct, Check, Failed}
use Rattle.plinq_text.specs.declared.line_test.LineTest.{LineTest}
use Rattle.plinq_text.specs.declared.line_test.TestKind.{TestKind}
use Rattle.plinq_text.specs.declared.line_test.TestKind.TheVariants.{Contains, StartsWith, EndsWith, Is, Matches, IsNumber, Below, Above, Equal}
use Rattle.plinq_text.specs.declared.line_test.TestKind.TheVariants.{ShorterThan, LongerThan, HasLength}

-- the pattern of a comparison, if it has one
abbrev pub pattern_for : TestKind → List ℕ → Option (List ℕ)
pattern_for Contains wanted = None
pattern_for StartsWith wanted = None
pattern_for EndsWith wanted = None
pattern_for Is wanted = None
pattern_for Matches wanted = Some wanted
pattern_for IsNumber wanted = None
pattern_for (Below n) wanted = None
pattern_for (Above n) wanted = None
pattern_for (Equal n) wanted = None
pattern_for (ShorterThan n) wanted = None
pattern_for (LongerThan n) wanted = None
pattern_for (HasLength n) wanted = None

abbrev pub pattern_of : LineTest → Option (List ℕ)
pattern_of t = pattern_for t.kind (string_bytes t.text)

abbrev pub pattern_of_step : LineStep → Option (List ℕ)
pattern_of_step (Filter t) = pattern_of t
pattern_of_step (Select f) = None
pattern_of_step (Take n) = None
pattern_of_step (Skip n) = None
pattern_of_step (TakeWhile t) = pattern_of t
pattern_of_step (SkipWhile t) = pattern_of t
pattern_of_step (Distinct k) = None
pattern_of_step (Check t) = pattern_of t
pattern_of_step Failed = None

-- this is the pattern of a step's test, if it has one
abbrev pub IsPatternOf : LineStep → Option (List ℕ) → Type 0
IsPatternOf (Filter t) pattern = pattern ≡ pattern_of t
IsPatternOf (Select f) pattern = ⊤
IsPatternOf (Take n) pattern = ⊤
IsPatternOf (Skip n) pattern = ⊤
IsPatternOf (TakeWhile t) pattern = pattern ≡ pattern_of t
IsPatternOf (SkipWhile t) pattern = pattern ≡ pattern_of t
IsPatternOf (Distinct k) pattern = ⊤
IsPatternOf (Check t) pattern = pattern ≡ pattern_of t
IsPatternOf Failed pattern = ⊤

-- these are the patterns of the tests of steps
unfoldable pub ArePatternsOf : List LineStep → List (Option (List ℕ)) → Type 0
ArePatternsOf [] all = ⊤
ArePatternsOf (s ∷ ss) [] = ⊥
ArePatternsOf (s ∷ ss) (p ∷ all) = IsPatternOf s p × ArePatternsOf ss all

-- whether there is a pattern among these
abbrev pub has_pattern : List (Option (List ℕ)) → Bool
has_pattern [] = false
has_pattern (p ∷ all) = is_some p || has_pattern all
