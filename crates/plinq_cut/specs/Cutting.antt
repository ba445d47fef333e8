-- A cut that several passes share: what holds between any two steps of any passes, and what a step reports to its pass.
use Rattle.std.specs.Prelude.{◌≡◌, ℕ, ◌≤◌, ◌==◌, ◌||◌, Bool, true, false, List, min, ⊤, refl}
use mathlib.Core.Option.{some}
use lib.ListN.{get_elem?}
use Rattle.plinq_ops.specs.Cut.{no_cut}
use Rattle.plinq_cut.specs.declared.view.View.{View}
use Rattle.plinq_cut.specs.declared.view.View.TheVariants.{Passing, Joined}

-- a cut is no cut at all, or a key that ends the run
abbrev pub is_cut_of : (ℕ → Bool) → ℕ → Bool
is_cut_of stops_at cut = cut == no_cut || stops_at cut

-- no cut at all, where no key ends the run
no_cut_at_all : is_cut_of (λ key. false) no_cut ≡ true
no_cut_at_all = refl

a_key_that_ends_the_run : is_cut_of (λ key. key == 5) 5 ≡ true
a_key_that_ends_the_run = refl

a_key_before_it : is_cut_of (λ key. key == 5) 4 ≡ false
a_key_before_it = refl

a_key_after_it : is_cut_of (λ key. key == 5) 6 ≡ false
a_key_after_it = refl

-- the word is at most the least number that a pass has seen
abbrev pub Knows : ℕ → View → Type 0
Knows word (Passing least) = word ≤ least
Knows word Joined = ⊤

-- the word is a cut, and no pass has seen less
pub record IsLawful (stops_at : ℕ → Bool) (word : ℕ) (views : List View) : Type 0 where
  pub cut : is_cut_of stops_at word ≡ true
  pub known : (i : ℕ) (v : View) → get_elem? views i ≡ some v → Knows word v

-- what a step of a pass that found n reports: a cut at most what it has seen, and the least number that it has then seen
abbrev pub Sees : (ℕ → Bool) → ℕ → ℕ → View → View → Type 0
Sees stops_at n seen (Passing least) v = (is_cut_of stops_at n ≡ true) × (n ≤ least) × (v ≡ Passing seen)
Sees stops_at n seen Joined v = ⊤

-- what two passes know together
abbrev pub together : View → View → View
together (Passing least) (Passing other) = Passing (min least other)
together (Passing least) Joined = Passing least
together Joined v = v
