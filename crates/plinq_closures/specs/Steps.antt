-- The steps of a chain, numbered from its last: what the closure of each may give, and the operators that they come to.
use Rattle.std.specs.Prelude.{◌≡◌, ℕ, zero, suc, ⊤, List, [], ◌∷◌, ◌++◌, length, Bool, Result, Err}
use Rattle.plinq_lambda.specs.Meaning.{Meaning}
use Rattle.plinq_ops.specs.declared.op.Op.{Op}
use Rattle.plinq_ops.specs.declared.op.Op.TheVariants.{Select, Filter, SelectMany, Take, Skip, TakeWhile, SkipWhile, AsUnordered}

-- an operator with something else in the place of its lambda
abbrev pub over : {L M : Type 0} → (L → M) → Op L → Op M
over f (Select l) = Select (f l)
over f (Filter l) = Filter (f l)
over f (SelectMany l) = SelectMany (f l)
over f (Take n) = Take n
over f (Skip n) = Skip n
over f (TakeWhile l) = TakeWhile (f l)
over f (SkipWhile l) = SkipWhile (f l)
over f AsUnordered = AsUnordered

-- the kind of the step of this number; past the first step there is none, and nothing is done
abbrev pub kind_at : List (Op ⊤) → ℕ → Op ⊤
kind_at [] n = AsUnordered
kind_at (kind ∷ kinds) zero = kind
kind_at (kind ∷ kinds) (suc n) = kind_at kinds n

-- the operators of the steps below this number, the first of them first
abbrev pub steps_below : {M : Type 0} → List (Op ⊤) → (ℕ → M) → ℕ → List (Op M)
steps_below kinds m zero = []
steps_below kinds m (suc n) = over (λ _. m n) (kind_at kinds n) ∷ steps_below kinds m n

-- one thing at the last step, another at those before it
abbrev pub here_or : Type 0 → (ℕ → Type 0) → ℕ → Type 0
here_or here before zero = here
here_or here before (suc n) = before n

-- some answer to each item at each step
abbrev pub GivesSome : {T R : Type 0} → (ℕ → T → R → Type 0) → Type 0
GivesSome {T} {R} Gives = (at : ℕ) (x : T) → (r : R) × Gives at x r

-- no two of them
abbrev pub GivesOne : {T R : Type 0} → (ℕ → T → R → Type 0) → Type 0
GivesOne {T} {R} Gives = (at : ℕ) (x : T) (r q : R) → Gives at x r → Gives at x q → q ≡ r

-- the fault of a step that doesn't do this
abbrev pub IsNothing : {R : Type 0} → Result R ℕ → Type 0
IsNothing r = r ≡ Err 0

abbrev pub does_nothing : {T R : Type 0} → T → Result R ℕ → Type 0
does_nothing x r = IsNothing r

-- each step does what its closure may give
pub record Agrees {T : Type 0} (Maps : ℕ → T → Result T ℕ → Type 0) (Tests : ℕ → T → Result Bool ℕ → Type 0) (m : ℕ → Meaning T) : Type 0 where
  pub map : (at : ℕ) (x : T) → Maps at x ((m at).map x)
  pub test : (at : ℕ) (x : T) → Tests at x ((m at).test x)
  pub expand : (at : ℕ) (x : T) → (m at).expand x ≡ Err 0

-- the operators before it, and then a step with a function that its closure may give
pub record DoesThen {T R : Type 0} (Before : List (Op (Meaning T)) → Type 0) (Gives : T → R → Type 0) (step : (T → R) → Op (Meaning T))
    (ops : List (Op (Meaning T))) : Type 0 where
  pub before : List (Op (Meaning T))
  pub was : Before before
  pub does : T → R
  pub gives : (x : T) → Gives x (does x)
  pub all : ops ≡ before ++ step does ∷ []

-- what steps do are these operators, where each step does what its closure may give
abbrev pub ComesTo : {T : Type 0} → List (Op ⊤) → (ℕ → T → Result T ℕ → Type 0) → (ℕ → T → Result Bool ℕ → Type 0) → (List (Op (Meaning T)) → Type 0) → Type 0
ComesTo {T} kinds Maps Tests Does =
    (m : ℕ → Meaning T) → Agrees Maps Tests m → (ops : List (Op (Meaning T))) → Does ops → steps_below kinds m (length kinds) ≡ ops
