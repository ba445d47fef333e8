-- Steps and their patterns, in parts.
use Rattle.std.proofs.Common.{◌≡◌, ℕ, zero, suc, ◌<◌, ◌≤◌, List, [], ◌∷◌, ◌++◌, map, get_or, length, take, drop, Option, arith, refl}
use Rattle.plinq_text.specs.declared.line_step.LineStep.{LineStep}
use Rattle.plinq_text.specs.declared.line_step.LineStep.TheVariants.{Filter, Select, Take, Skip, TakeWhile, SkipWhile, Distinct, Check, Failed}
use Rattle.plinq_text.specs.StepPatterns.{ArePatternsOf, IsPatternOf, pattern_of_step}

-- the patterns of steps are what their searchers are to search for
pub patterns-fit : (ss : List LineStep) → ArePatternsOf ss (map pattern_of_step ss)
unfolding ArePatternsOf
patterns-fit [] = tt
patterns-fit (Filter t ∷ ss) = (refl, patterns-fit ss)
patterns-fit (Select f ∷ ss) = (tt, patterns-fit ss)
patterns-fit (Take n ∷ ss) = (tt, patterns-fit ss)
patterns-fit (Skip n ∷ ss) = (tt, patterns-fit ss)
patterns-fit (TakeWhile t ∷ ss) = (refl, patterns-fit ss)
patterns-fit (SkipWhile t ∷ ss) = (refl, patterns-fit ss)
patterns-fit (Distinct k ∷ ss) = (tt, patterns-fit ss)
patterns-fit (Check t ∷ ss) = (refl, patterns-fit ss)
patterns-fit (Failed ∷ ss) = (tt, patterns-fit ss)

-- there are as many patterns as steps
pub as-many : (ss : List LineStep) (ps : List (Option (List ℕ))) → ArePatternsOf ss ps → length ss ≤ length ps
unfolding ArePatternsOf
as-many [] ps are = omega arith
as-many (s ∷ ss) [] are = absurd are
as-many (s ∷ ss) (p ∷ ps) are = let fewer = as-many ss ps are.1 in omega (fewer, arith)

-- each step has its own
pub own-pattern : (ss : List LineStep) (ps : List (Option (List ℕ))) (i : ℕ) (s : LineStep) (p : Option (List ℕ))
    → ArePatternsOf ss ps → i < length ss → IsPatternOf (get_or ss i s) (get_or ps i p)
unfolding ArePatternsOf
own-pattern [] ps i s p are within = absurd (omega (within, arith))
own-pattern (x ∷ ss) [] i s p are within = absurd are
own-pattern (x ∷ ss) (y ∷ ps) zero s p are within = are.0
own-pattern (x ∷ ss) (y ∷ ps) (suc i) s p are within = own-pattern ss ps i s p are.1 (omega (within, arith))

-- the first steps have the first patterns
pub first-patterns : (n : ℕ) (ss : List LineStep) (ps : List (Option (List ℕ))) → ArePatternsOf ss ps → ArePatternsOf (take n ss) (take n ps)
unfolding ArePatternsOf
first-patterns zero ss ps are = tt
first-patterns (suc n) [] ps are = tt
first-patterns (suc n) (s ∷ ss) [] are = absurd are
first-patterns (suc n) (s ∷ ss) (p ∷ ps) are = (are.0, first-patterns n ss ps are.1)

-- and the others the others
pub later-patterns : (n : ℕ) (ss : List LineStep) (ps : List (Option (List ℕ))) → ArePatternsOf ss ps → ArePatternsOf (drop n ss) (drop n ps)
unfolding ArePatternsOf
later-patterns zero ss ps are = are
later-patterns (suc n) [] ps are = tt
later-patterns (suc n) (s ∷ ss) [] are = absurd are
later-patterns (suc n) (s ∷ ss) (p ∷ ps) are = later-patterns n ss ps are.1

-- both together have all
pub all-patterns : (n : ℕ) (ss ss' : List LineStep) (ps : List (Option (List ℕ))) → length ss ≡ n → ArePatternsOf ss (take n ps)
    → ArePatternsOf ss' (drop n ps) → ArePatternsOf (ss ++ ss') ps
unfolding ArePatternsOf
all-patterns zero [] ss' ps len first later = later
all-patterns zero (s ∷ ss) ss' ps len first later = absurd (omega (len, arith))
all-patterns (suc n) [] ss' ps len first later = absurd (omega (len, arith))
all-patterns (suc n) (s ∷ ss) ss' [] len first later = absurd first
all-patterns (suc n) (s ∷ ss) ss' (p ∷ ps) len first later = (first.0, all-patterns n ss ss' ps (omega (len, arith)) first.1 later)
