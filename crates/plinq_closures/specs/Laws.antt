-- What holds of a chain holds of it with one step more.
use Rattle.std.specs.Prelude.{◌≡◌, refl, ℕ, zero, suc, ⊤, List, [], ◌∷◌, ◌++◌, length, Bool, Result, Err}
use Rattle.std.proofs.Common.{sym, ◌∙◌, ap}
use Rattle.std.proofs.Math.Path.{fun_ext}
use Rattle.plinq_lambda.specs.Meaning.{Meaning}
use Rattle.plinq_ops.specs.declared.op.Op.{Op}
use Rattle.plinq_ops.specs.declared.op.Op.TheVariants.{Select}
use Rattle.plinq_closures.specs.inner.Only.{HasOne, answer_in, given-answer}
use Rattle.plinq_closures.specs.Functions.{maps, tests}
use Rattle.plinq_closures.specs.Steps.{over, kind_at, steps_below, here_or, GivesSome, GivesOne, IsNothing, Agrees, DoesThen, ComesTo}

-- a step that doesn't do this answers its fault
pub nothing_given : {T R : Type 0} (x : T) → (r : Result R ℕ) × IsNothing r
nothing_given x = (Err 0, refl)

pub nothing_else : {T R : Type 0} (x : T) (r q : Result R ℕ) → IsNothing r → IsNothing q → q ≡ r
nothing_else x r q is so = so ∙ sym is

module _ {T R : Type 0} (Here : T → R → Type 0) (Before : ℕ → T → R → Type 0) where
  pub some_then : ((x : T) → (r : R) × Here x r) → GivesSome Before → GivesSome (λ at x r. here_or (Here x r) (λ n. Before n x r) at)
  some_then here before zero x = here x
  some_then here before (suc n) x = before n x

  pub one_then : ((x : T) (r q : R) → Here x r → Here x q → q ≡ r) → GivesOne Before → GivesOne (λ at x r. here_or (Here x r) (λ n. Before n x r) at)
  one_then here before zero x r q a b = here x r q a b
  one_then here before (suc n) x r q a b = before n x r q a b

-- the operators of one step more
steps_below-then : {M : Type 0} (kind : Op ⊤) (kinds : List (Op ⊤)) (m : ℕ → M) (n : ℕ)
    → steps_below (kind ∷ kinds) m (suc n) ≡ steps_below kinds (λ at. m (suc at)) n ++ over (λ _. m 0) kind ∷ []
steps_below-then kind kinds m zero = refl
steps_below-then kind kinds m (suc n) = ap (λ ops. over (λ _. m (suc n)) (kind_at kinds n) ∷ ops) (steps_below-then kind kinds m n)

-- so where the last step does this, the chain does what it did before and then this
comes_to-then : {T : Type 0} (kind : Op ⊤) (kinds : List (Op ⊤)) (m : ℕ → Meaning T) (before : List (Op (Meaning T))) (f : Meaning T)
    → steps_below kinds (λ at. m (suc at)) (length kinds) ≡ before → m 0 ≡ f
    → steps_below (kind ∷ kinds) m (length (kind ∷ kinds)) ≡ before ++ over (λ _. f) kind ∷ []
comes_to-then kind kinds m before f was is =
    steps_below-then kind kinds m (length kinds)
    ∙ (ap (λ ops. ops ++ over (λ _. m 0) kind ∷ []) was ∙ ap (λ g. before ++ over (λ _. g) kind ∷ []) is)

-- three functions that are equal item by item
pub same_meaning : {T : Type 0} (f g : Meaning T) → ((x : T) → f.map x ≡ g.map x) → ((x : T) → f.test x ≡ g.test x)
    → ((x : T) → f.expand x ≡ g.expand x) → f ≡ g
same_meaning f g map test expand =
    ap (λ h. record { map = h; test = f.test; expand = f.expand }) (fun_ext map)
    ∙ (ap (λ h. record { map = g.map; test = h; expand = f.expand }) (fun_ext test)
    ∙ ap (λ h. record { map = g.map; test = g.test; expand = h }) (fun_ext expand))

module _ {T : Type 0} (kinds : List (Op ⊤)) (Maps : ℕ → T → Result T ℕ → Type 0) (Tests : ℕ → T → Result Bool ℕ → Type 0)
    (Does : List (Op (Meaning T)) → Type 0) where
  -- a step that maps
  pub comes_to-mapped : (Here : T → Result T ℕ → Type 0) → ((x : T) (r q : Result T ℕ) → Here x r → Here x q → q ≡ r) → ComesTo kinds Maps Tests Does
      → ComesTo (Select tt ∷ kinds) (λ at x r. here_or (Here x r) (λ n. Maps n x r) at)
      (λ at x r. here_or (IsNothing r) (λ n. Tests n x r) at) (DoesThen Does Here (λ f. Select (maps f)))
  comes_to-mapped Here one before m is ops does =
      comes_to-then (Select tt) kinds m does.before (maps does.does)
      (before (λ at. m (suc at)) (record { map = λ at. is.map (suc at); test = λ at. is.test (suc at); expand = λ at. is.expand (suc at) })
      does.before does.was)
      (same_meaning (m 0) (maps does.does) (λ x. one x _ _ (does.gives x) (is.map 0 x)) (is.test 0) (is.expand 0))
      ∙ sym does.all

  -- a step of any kind that tests
  pub comes_to-tested : (kind : Op ⊤) (Here : T → Result Bool ℕ → Type 0) → ((x : T) (r q : Result Bool ℕ) → Here x r → Here x q → q ≡ r)
      → ComesTo kinds Maps Tests Does
      → ComesTo (kind ∷ kinds) (λ at x r. here_or (IsNothing r) (λ n. Maps n x r) at)
      (λ at x r. here_or (Here x r) (λ n. Tests n x r) at) (DoesThen Does Here (λ f. over (λ _. tests f) kind))
  comes_to-tested kind Here one before m is ops does =
      comes_to-then kind kinds m does.before (tests does.does)
      (before (λ at. m (suc at)) (record { map = λ at. is.map (suc at); test = λ at. is.test (suc at); expand = λ at. is.expand (suc at) })
      does.before does.was)
      (same_meaning (m 0) (tests does.does) (is.map 0) (λ x. one x _ _ (does.gives x) (is.test 0 x)) (is.expand 0))
      ∙ sym does.all

-- no step does nothing
pub no_steps : {T : Type 0} (m : ℕ → Meaning T) (ops : List (Op (Meaning T))) → ops ≡ [] → steps_below [] m 0 ≡ ops
no_steps m ops none = sym none

-- a step whose closure has one answer to each item does what each function does that it may give
pub step_meaning : {T : Type 0} (Maps : ℕ → T → Result T ℕ → Type 0) (Tests : ℕ → T → Result Bool ℕ → Type 0) (at : ℕ)
    (one_map : (x : T) → HasOne (Maps at x)) (one_test : (x : T) → HasOne (Tests at x)) (m : ℕ → Meaning T) → Agrees Maps Tests m
    → ◌≡◌ {A = Meaning T} (record { map = λ x. answer_in (one_map x); test = λ x. answer_in (one_test x); expand = λ x. Err 0 }) (m at)
step_meaning Maps Tests at one_map one_test m is =
    same_meaning _ (m at) (λ x. sym (given-answer (one_map x) ((m at).map x) (is.map at x)))
    (λ x. sym (given-answer (one_test x) ((m at).test x) (is.test at x))) (λ x. sym (is.expand at x))
