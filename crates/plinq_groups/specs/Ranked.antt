-- The item of the least rank, and that of the greatest: of several the first.
use Rattle.std.specs.Prelude.{◌≡◌, refl, Bool, true, false, cond}
use Rattle.std.specs.Cmp.{IsTotalOrder}
use Rattle.std.specs.Ordering.{ordering_reverse, is_lt}
use Rattle.std.specs.declared.cmp.Ordering.{Ordering}
use Rattle.std.specs.declared.cmp.Ordering.TheVariants.{Less, Equal, Greater}
use Rattle.std.proofs.Common.{sym, ◌∙◌, ap, true≢false}
use Rattle.plinq_aggregate.specs.Folding.{IsFolding}
use Rattle.plinq_aggregate.specs.Numbers.{picking}
use Rattle.plinq_aggregate.specs.Lawful.{picking-lawful}

module _ {T K : Type 0} (rank : T → K) (cmp : K → K → Ordering) where
  -- the second where it is less, and else the first
  abbrev pub lesser : T → T → T
  lesser a b = cond (is_lt (cmp (rank b) (rank a))) b a

  -- the second where it is greater, and else the first
  abbrev pub greater : T → T → T
  greater a b = cond (is_lt (cmp (rank a) (rank b))) b a

  module _ (total : IsTotalOrder cmp) where
    -- what is less than one is less than the other, or the other is less than the one
    pub less-between : (a b c : K) → cmp c a ≡ Less → is_lt (cmp b a) ≡ false → (o : Ordering) → cmp c b ≡ o → is_lt o ≡ true
    less-between a b c below not-below Less is = refl
    less-between a b c below not-below Equal is = absurd (true≢false (sym (ap is_lt (sym (total.congr c b a is) ∙ below)) ∙ not-below))
    less-between a b c below not-below Greater is =
        absurd (true≢false (sym (ap is_lt (total.trans b c a (total.antisymm b c ∙ ap ordering_reverse is) below)) ∙ not-below))

    pub less-is : (o : Ordering) → is_lt o ≡ true → o ≡ Less
    less-is Less is = refl
    less-is Equal is = absurd (true≢false (sym is))
    less-is Greater is = absurd (true≢false (sym is))

    lesser-at : (a b c : T) → (p : Bool) → is_lt (cmp (rank c) (rank b)) ≡ p → (q : Bool) → is_lt (cmp (rank b) (rank a)) ≡ q → (r : Bool)
        → is_lt (cmp (rank c) (rank a)) ≡ r
        → lesser a (lesser b c) ≡ lesser (lesser a b) c
    lesser-at a b c true p true q true r =
        ap (λ x. lesser a (cond x c b)) p ∙ ap (λ x. cond x c a) r ∙ sym (ap (λ x. lesser (cond x b a) c) q ∙ ap (λ x. cond x c b) p)
    lesser-at a b c true p true q false r =
        absurd (true≢false (sym (ap is_lt (total.trans (rank c) (rank b) (rank a) (less-is (cmp (rank c) (rank b)) p) (less-is (cmp (rank b) (rank a)) q)))
        ∙ r))
    lesser-at a b c true p false q r third = ap (λ x. lesser a (cond x c b)) p ∙ sym (ap (λ x. lesser (cond x b a) c) q)
    lesser-at a b c false p true q r third =
        ap (λ x. lesser a (cond x c b)) p ∙ ap (λ x. cond x b a) q ∙ sym (ap (λ x. lesser (cond x b a) c) q ∙ ap (λ x. cond x c b) p)
    lesser-at a b c false p false q true r =
        absurd (true≢false (sym (less-between (rank a) (rank b) (rank c) (less-is (cmp (rank c) (rank a)) r) q (cmp (rank c) (rank b)) refl) ∙ p))
    lesser-at a b c false p false q false r =
        ap (λ x. lesser a (cond x c b)) p ∙ ap (λ x. cond x b a) q ∙ sym (ap (λ x. lesser (cond x b a) c) q ∙ ap (λ x. cond x c a) r)

    pub lesser-lawful : IsFolding (picking lesser)
    lesser-lawful =
        picking-lawful lesser
        (λ a b c. lesser-at a b c (is_lt (cmp (rank c) (rank b))) refl (is_lt (cmp (rank b) (rank a))) refl (is_lt (cmp (rank c) (rank a))) refl)

-- the other way round
IsTotalOrder-flip : {K : Type 0} (cmp : K → K → Ordering) → IsTotalOrder cmp → IsTotalOrder (λ x y. cmp y x)
IsTotalOrder-flip cmp total =
    record {
      antisymm = λ x y. total.antisymm y x;
      trans = λ x y z first second. total.trans z y x second first;
      congr = λ x y z same.
          total.antisymm z x
          ∙ ap ordering_reverse (total.congr x y z (total.antisymm x y ∙ ap ordering_reverse same))
          ∙ sym (total.antisymm z y);
    }

pub greater-lawful : {T K : Type 0} (rank : T → K) (cmp : K → K → Ordering) → IsTotalOrder cmp → IsFolding (picking (greater rank cmp))
greater-lawful rank cmp total = lesser-lawful rank (λ x y. cmp y x) (IsTotalOrder-flip cmp total)
