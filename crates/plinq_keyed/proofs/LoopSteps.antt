-- One step of each loop over partitions: what holds from a place on is what holds there, and from the next place on.
use Rattle.std.proofs.Common.{◌≡◌, ℕ, ◌+◌, ◌<◌, true, ◌&&◌, List, ◌∷◌, length, drop, get_or, sym, ap, ◌∙◌, Vec}
use Rattle.std.specs.List.{concat}
use Rattle.std.specs.declared.alloc.Global.{Global}
use Rattle.std.proofs.lemmas.Bool.{and_parts}
use Rattle.std.proofs.lemmas.List.{drop_more}
use Rattle.plinq_keyed.specs.declared.keyed.Keyed.{Keyed}
use Rattle.plinq_keyed.specs.Keys.{keys, key_lists, element_lists, are_distinct, rises, ordered_in_each}
use Rattle.plinq_keyed.specs.inner.Sweeps.{are_disjoint}
use Rattle.plinq_keyed.proofs.Distinct.{are_disjoint-append, are_disjoint-lower_left, are_disjoint-lower_right, are_distinct-append}
use Rattle.plinq_keyed.proofs.Distinct.{are_distinct-rising, rises-tail}

abbrev pub all_keys : {T : Type 0} → List (Vec (Keyed T) Global) → List ℕ
all_keys parts = concat (key_lists (element_lists parts))

-- what is left at place i begins with the element there
pub drop-at : {A : Type 0} (xs : List A) (i : ℕ) (x : A) → i < length xs → x ≡ get_or xs i x → drop i xs ≡ x ∷ drop (i + 1) xs
drop-at xs i x h is = drop_more xs i x h ∙ ap (λ y. y ∷ drop (i + 1) xs) (sym is)

pub rises-next : {T : Type 0} (xs : List (Keyed T)) (i : ℕ) (x : Keyed T) → drop i xs ≡ x ∷ drop (i + 1) xs → rises (keys (drop i xs)) ≡ true
    → rises (keys (drop (i + 1) xs)) ≡ true
rises-next xs i x e h = rises-tail x.key (keys (drop (i + 1) xs)) (sym (ap (λ ys. rises (keys ys)) e) ∙ h)

pub are_disjoint-left : {T : Type 0} (xs ys : List (Keyed T)) (i j : ℕ) (x y : Keyed T) → drop i xs ≡ x ∷ drop (i + 1) xs
    → drop j ys ≡ y ∷ drop (j + 1) ys → x.key < y.key → rises (keys (drop j ys)) ≡ true →
    are_disjoint (keys (drop (i + 1) xs)) (keys (drop j ys)) ≡ are_disjoint (keys (drop i xs)) (keys (drop j ys))
are_disjoint-left xs ys i j x y ex ey below h =
    ap (λ zs. are_disjoint (keys (drop (i + 1) xs)) (keys zs)) ey
    ∙ sym (are_disjoint-lower_left x.key y.key (keys (drop (i + 1) xs)) (keys (drop (j + 1) ys)) below (sym (ap (λ zs. rises (keys zs)) ey) ∙ h))
    ∙ sym (ap (λ zs. are_disjoint (keys (x ∷ drop (i + 1) xs)) (keys zs)) ey)
    ∙ sym (ap (λ zs. are_disjoint (keys zs) (keys (drop j ys))) ex)

pub are_disjoint-right : {T : Type 0} (xs ys : List (Keyed T)) (i j : ℕ) (x y : Keyed T) → drop i xs ≡ x ∷ drop (i + 1) xs
    → drop j ys ≡ y ∷ drop (j + 1) ys → y.key < x.key → rises (keys (drop i xs)) ≡ true →
    are_disjoint (keys (drop i xs)) (keys (drop (j + 1) ys)) ≡ are_disjoint (keys (drop i xs)) (keys (drop j ys))
are_disjoint-right xs ys i j x y ex ey below h =
    ap (λ zs. are_disjoint (keys zs) (keys (drop (j + 1) ys))) ex
    ∙ sym (are_disjoint-lower_right x.key y.key (keys (drop (i + 1) xs)) (keys (drop (j + 1) ys)) below (sym (ap (λ zs. rises (keys zs)) ex) ∙ h))
    ∙ sym (ap (λ zs. are_disjoint (keys zs) (keys (y ∷ drop (j + 1) ys))) ex)
    ∙ sym (ap (λ zs. are_disjoint (keys (drop i xs)) (keys zs)) ey)

pub are_disjoint-next : {T : Type 0} (ks : List ℕ) (parts : List (Vec (Keyed T) Global)) (i : ℕ) (part : Vec (Keyed T) Global)
    → drop i parts ≡ part ∷ drop (i + 1) parts →
    are_disjoint ks (all_keys (drop i parts)) ≡ (are_disjoint ks (keys part.items) && are_disjoint ks (all_keys (drop (i + 1) parts)))
are_disjoint-next ks parts i part e =
    ap (λ ps. are_disjoint ks (all_keys ps)) e ∙ are_disjoint-append ks (keys part.items) (all_keys (drop (i + 1) parts))

pub ordered-next : {T : Type 0} (parts : List (Vec (Keyed T) Global)) (i : ℕ) (part : Vec (Keyed T) Global) → drop i parts ≡ part ∷ drop (i + 1) parts
    → ordered_in_each (key_lists (element_lists (drop i parts))) ≡ true →
    (rises (keys part.items) ≡ true) × (ordered_in_each (key_lists (element_lists (drop (i + 1) parts))) ≡ true)
ordered-next parts i part e h = and_parts (rises (keys part.items)) _ (sym (ap (λ ps. ordered_in_each (key_lists (element_lists ps))) e) ∙ h)

pub are_distinct-next : {T : Type 0} (parts : List (Vec (Keyed T) Global)) (i : ℕ) (part : Vec (Keyed T) Global) → drop i parts ≡ part ∷ drop (i + 1) parts →
    are_distinct (all_keys (drop i parts)) ≡ (are_distinct (keys part.items) && are_disjoint (keys part.items) (all_keys (drop (i + 1) parts))
    && are_distinct (all_keys (drop (i + 1) parts)))
are_distinct-next parts i part e =
    ap (λ ps. are_distinct (all_keys ps)) e ∙ are_distinct-append (keys part.items) (all_keys (drop (i + 1) parts))

pub are_distinct-next_rising : {T : Type 0} (parts : List (Vec (Keyed T) Global)) (i : ℕ) (part : Vec (Keyed T) Global)
    → drop i parts ≡ part ∷ drop (i + 1) parts → rises (keys part.items) ≡ true →
    are_distinct (all_keys (drop i parts)) ≡ (are_disjoint (keys part.items) (all_keys (drop (i + 1) parts)) && are_distinct (all_keys (drop (i + 1) parts)))
are_distinct-next_rising parts i part e h =
    are_distinct-next parts i part e
    ∙ ap (λ b. b && are_disjoint (keys part.items) (all_keys (drop (i + 1) parts)) && are_distinct (all_keys (drop (i + 1) parts)))
    (are_distinct-rising 0 (keys part.items) h)
