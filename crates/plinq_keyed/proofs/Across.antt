-- One step of the check of order across partitions: all later keys are at least the least number above those seen.
use Rattle.std.proofs.Common.{◌≡◌, ℕ, ◌+◌, max, Bool, true, false, ◌&&◌, ltb, leb, List, [], ◌∷◌, refl, sym, ap, ◌∙◌, arith}
use Rattle.std.specs.List.{list_all, concat}
use Rattle.std.proofs.Math.Bool.{and_assoc, and-true}
use Rattle.std.proofs.lemmas.Bool.Decides.{nat_tests}
use Rattle.std.proofs.lemmas.List.Folds.{list_all-append}
use Rattle.plinq_keyed.specs.Keys.{is_below, ordered_across}
use Rattle.plinq_keyed.specs.inner.Sweeps.{all_from, least_after}

and_swap : (a b c d : Bool) → (a && b && (c && d)) ≡ (a && c && (b && d))
and_swap true true c d = refl
and_swap true false true d = refl
and_swap true false false d = refl
and_swap false b c d = refl

leb-max : (a k j : ℕ) → leb (max a (k + 1)) j ≡ (leb a j && ltb k j)
leb-max a k j = grind (arith, nat_tests)

all_from-max : (a k : ℕ) (js : List ℕ) → all_from (max a (k + 1)) js ≡ (all_from a js && is_below js k)
all_from-max a k [] = refl
all_from-max a k (j ∷ js) =
    ap (λ b. b && all_from (max a (k + 1)) js) (leb-max a k j)
    ∙ ap (λ b. leb a j && ltb k j && b) (all_from-max a k js)
    ∙ and_swap (leb a j) (ltb k j) (all_from a js) (is_below js k)

pub all_from-least_after : (least : ℕ) (ks js : List ℕ) → all_from (least_after least ks) js ≡ (all_from least js && list_all (is_below js) ks)
all_from-least_after least [] js = sym (and-true (all_from least js))
all_from-least_after least (k ∷ ks) js =
    all_from-least_after (max least (k + 1)) ks js
    ∙ ap (λ b. b && list_all (is_below js) ks) (all_from-max least k js)
    ∙ and_assoc (all_from least js) (is_below js k) (list_all (is_below js) ks)

pub across-step : (least : ℕ) (ks : List ℕ) (kss : List (List ℕ)) → all_from least ks ≡ true →
    (all_from (least_after least ks) (concat kss) && ordered_across kss) ≡ (all_from least (concat (ks ∷ kss)) && ordered_across (ks ∷ kss))
across-step least ks kss h =
    let js = concat kss in
    let here : (all_from least ks && all_from least js) ≡ all_from least js = ap (λ b. b && all_from least js) h in
    ap (λ b. b && ordered_across kss) (all_from-least_after least ks js)
    ∙ and_assoc (all_from least js) (list_all (is_below js) ks) (ordered_across kss)
    ∙ ap (λ b. b && ordered_across (ks ∷ kss)) (sym (list_all-append (λ k. leb least k) ks js ∙ here))

pub all_from-zero : (ks : List ℕ) → all_from 0 ks ≡ true
all_from-zero [] = refl
all_from-zero (k ∷ ks) = let h : leb 0 k ≡ true = grind (arith, nat_tests) in ap (λ b. b && all_from 0 ks) h ∙ all_from-zero ks
