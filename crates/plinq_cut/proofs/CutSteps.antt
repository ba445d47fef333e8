-- Each step of a pass keeps the cut lawful, and reports what its play says.
use Rattle.std.proofs.Common.{◌≡◌, ℕ, ◌≤◌, ◌==◌, ◌||◌, Bool, true, List, [], ◌∷◌, ◌++◌, set, min, refl, sym, subst, ap, ◌∙◌, arith, ⊎_elim, ◌⊎◌, inl, inr}
use Rattle.std.proofs.Math.Nat.{min-eq_left, min-eq_right}
use Rattle.std.proofs.Math.Bool.{or-true}
use Rattle.std.proofs.lemmas.Bool.{cases_lt}
use mathlib.Core.Option.{some}
use lib.ListN.{get_elem?}
use Rattle.atomic_table.proofs.Lists.{at_set, at_snoc, set_again}
use Rattle.atomic_table.specs.Table.{Me, Allows, Splits, Joins}
use Rattle.plinq_ops.specs.Cut.{no_cut}
use Rattle.plinq_cut.specs.declared.view.View.{View}
use Rattle.plinq_cut.specs.declared.view.View.TheVariants.{Passing, Joined}
use Rattle.plinq_cut.specs.Cutting.{is_cut_of, Knows, IsLawful, Sees, together}
use Rattle.plinq_cut.specs.inner.OneWord.{OfOneWord}
use Rattle.plinq_cut.specs.Views.{is_passing}
use Rattle.plinq_cut.proofs.Allowed.{allows-word}

-- the lesser of two numbers is one of them
min-one : (m n : ℕ) → (min m n ≡ m) ⊎ (min m n ≡ n)
min-one m n = ⊎_elim (λ h. inl (min-eq_left (omega (arith, h)))) (λ h. inr (min-eq_right h)) (cases_lt m n)

-- a cut and a key that ends the run: the lesser is a cut
is_cut_of-min : (stops_at : ℕ → Bool) (n key : ℕ) → is_cut_of stops_at n ≡ true → stops_at key ≡ true → is_cut_of stops_at (min n key) ≡ true
is_cut_of-min stops_at n key cut ends = ⊎_elim (λ e. rw e cut) (λ e. rw e (ap (λ b. (key == no_cut) || b) ends ∙ or-true (key == no_cut))) (min-one n key)

module _ (stops_at : ℕ → Bool) where
  -- a lesser word is known as well
  knows-less : (word less : ℕ) (v : View) → less ≤ word → Knows word v → Knows less v
  knows-less word less (Passing least) below known = omega (arith, below, known)
  knows-less word less Joined below known = tt

  -- one view changes, and the word falls to a cut
  lawful-set : (word less : ℕ) (views : List View) (i : ℕ) (w : View) → IsLawful stops_at word views → less ≤ word → is_cut_of stops_at less ≡ true
      → Knows less w → IsLawful stops_at less (set views i w)
  lawful-set word less views i w lawful below cut own = record {
    cut = cut;
    known = λ j u at. ⊎_elim (λ h. subst (λ x. Knows less x) h.1 own) (λ h. knows-less word less u below (lawful.known j u h.1)) (at_set views i j w u at);
  }

  -- a load: the pass knows the word
  step-see : (word : ℕ) (views : List View) (i : ℕ) (v : View) → is_passing v ≡ true → IsLawful stops_at word views → get_elem? views i ≡ some v
      → (w : View) × IsLawful stops_at word (set views i w) × Sees stops_at word word v w
  step-see word views i (Passing least) passing lawful at = (
    Passing word,
    lawful-set word word views i (Passing word) lawful (omega arith) lawful.cut (let same : word ≤ word = omega arith in same),
    (lawful.cut, lawful.known i (Passing least) at, refl),
  )
  step-see word views i Joined passing lawful at = absurd (cc)

  -- the word falls to a key that ends the run
  step-lower : (key word : ℕ) (views : List View) (i : ℕ) (v : View) → is_passing v ≡ true → stops_at key ≡ true → IsLawful stops_at word views
      → get_elem? views i ≡ some v
      → (w : View) × IsLawful stops_at (min word key) (set views i w) × Sees stops_at word (min word key) v w
  step-lower key word views i (Passing least) passing ends lawful at = (
    Passing (min word key),
    lawful-set word (min word key) views i (Passing (min word key)) lawful (omega arith) (is_cut_of-min stops_at word key lawful.cut ends)
        (let same : min word key ≤ min word key = omega arith in same),
    (lawful.cut, lawful.known i (Passing least) at, refl),
  )
  step-lower key word views i Joined passing ends lawful at = absurd (cc)

  -- what two passes know together
  knows-together : (word : ℕ) (v w : View) → Knows word v → Knows word w → Knows word (together v w)
  knows-together word (Passing least) (Passing other) known known' = omega (arith, known, known')
  knows-together word (Passing least) Joined known known' = known
  knows-together word Joined w known known' = known'

  -- a second pass knows what the first does
  lawful-beside : (word : ℕ) (views : List View) (i : ℕ) (v : View) → IsLawful stops_at word views → get_elem? views i ≡ some v
      → IsLawful stops_at word (views ++ v ∷ [])
  lawful-beside word views i v lawful at = record {
    cut = lawful.cut;
    known = λ j u at'. ⊎_elim (λ h. lawful.known j u h) (λ h. subst (λ x. Knows word x) h (lawful.known i v at)) (at_snoc views v u j at');
  }

  pub splits : (id : ℕ) (v : View) → Splits {S = Unit {0}} (OfOneWord (IsLawful stops_at)) id v v v
  splits id v s kept at = record {
    word = kept.word;
    words = kept.words;
    fact = subst (λ vs. IsLawful stops_at kept.word (vs ++ v ∷ [])) (sym (set_again s.views id v at)) (lawful-beside kept.word s.views id v kept.fact at);
  }

  -- one pass takes in another
  lawful-joined : (word : ℕ) (views : List View) (i j : ℕ) (v w : View) → IsLawful stops_at word views → get_elem? views i ≡ some v
      → get_elem? views j ≡ some w → IsLawful stops_at word (set (set views i (together v w)) j Joined)
  lawful-joined word views i j v w lawful at at' =
      let both = knows-together word v w (lawful.known i v at) (lawful.known j w at') in
      let first = lawful-set word word views i (together v w) lawful (omega arith) lawful.cut both in
      lawful-set word word (set views i (together v w)) j Joined first (omega arith) lawful.cut tt

  pub joins : (id other : ℕ) (v w : View) → Joins {S = Unit {0}} (OfOneWord (IsLawful stops_at)) id v other w (together v w) Joined
  joins id other v w s kept at apart at' =
      let there : get_elem? s.views other ≡ some w = ⊎_elim (λ h. absurd (apart h.0)) (λ h. h.1) (at_set s.views id other (together v w) w at') in
      record {
        word = kept.word;
        words = kept.words;
        fact = lawful-joined kept.word s.views id other v w kept.fact at there;
      }

module _ (stops_at : ℕ → Bool) (slots id : ℕ) (me : Me (Unit {0}) View) where
  pub sees : is_passing me.0 ≡ true → Allows (OfOneWord (IsLawful stops_at)) slots id me 0 (λ n. n) (λ n b. Sees stops_at n n me.0 b.0 × (b.1 ≡ me.1))
  sees passing = allows-word (IsLawful stops_at) slots id me (λ n. n) (λ n b. Sees stops_at n n me.0 b.0 × (b.1 ≡ me.1)) (λ word views lawful at.
      let done = step-see stops_at word views id me.0 passing lawful at in
      (done.0, done.1, (done.2, refl)))

  pub lowers : (key : ℕ) → is_passing me.0 ≡ true → stops_at key ≡ true
      → Allows (OfOneWord (IsLawful stops_at)) slots id me 0 (λ n. min n key) (λ n b. Sees stops_at n (min n key) me.0 b.0 × (b.1 ≡ me.1))
  lowers key passing ends =
      allows-word (IsLawful stops_at) slots id me (λ n. min n key) (λ n b. Sees stops_at n (min n key) me.0 b.0 × (b.1 ≡ me.1)) (λ word views lawful at.
      let done = step-lower stops_at key word views id me.0 passing ends lawful at in
      (done.0, done.1, (done.2, refl)))
