-- The first line that fails a check.
use Rattle.std.proofs.Common.{◌≡◌, ℕ, suc, ◌+◌, ◌&&◌, ◌||◌, not, Bool, true, false, cond, if◌then◌else◌, List, [], ◌∷◌, ◌++◌, length, Option, Some, None}
use Rattle.std.proofs.Common.{option_map, zero, ◌-◌, ◌==◌, refl, sym, ap, ◌∙◌, arith}
use Rattle.std.proofs.Math.Bool.{true≢false}
use Rattle.std.proofs.lemmas.Bool.{and_parts, eqb-true}
use Rattle.std.proofs.lemmas.Option.{none-some}
use Rattle.plinq_text.specs.declared.line_step.LineStep.{LineStep}
use Rattle.plinq_text.specs.declared.line_step.LineStep.TheVariants.{Filter, Select, Take, Skip, TakeWhile, SkipWhile, Distinct, Check, Failed}
use Rattle.plinq_text.specs.inner.Bad.{or_now}
use Rattle.plinq_text.specs.Lines.{Line}
use Rattle.plinq_text.specs.Steady.{are_steady, has_check, is_check, row_steady, steady_lines, with_line}
use Rattle.plinq_text.specs.Steps.{after_one, bad_line, does, has_failed, is_failed, is_over, later, left, passes, row_after, takes_none}
use Rattle.plinq_text.proofs.SteadyLaws.{first-made, row-first}

pub bad-nil : (ss : List LineStep) → bad_line ss [] ≡ None
unfolding bad_line
bad-nil ss = refl

pub bad-cons : (ss : List LineStep) (l : Line) (ls : List Line) → bad_line ss (l ∷ ls)
    ≡ (if has_failed (row_after ss l.text) then Some 0 else option_map (λ n. n + 1) (bad_line (row_after ss l.text) ls))
unfolding bad_line
bad-cons ss l ls = refl

-- a line more
pub bad-on : (before : Option ℕ) (count : ℕ) (b : Bool) (later : Option ℕ)
    → or_now before (option_map (λ n. n + count) (if b then Some 0 else option_map (λ n. n + 1) later))
    ≡ or_now (or_now before (if b then Some count else None)) (option_map (λ n. n + (count + 1)) later)
bad-on (Some n) count b later = refl
bad-on None count true later = let same : 0 + count ≡ count = omega arith in ap Some same
bad-on None count false None = refl
bad-on None count false (Some n) = let same : (n + 1) + count ≡ n + (count + 1) = omega arith in ap Some same

pub bad-first : (later : Option ℕ) → later ≡ or_now None (option_map (λ n. n + 0) later)
bad-first None = refl
bad-first (Some n) = let same : n ≡ n + 0 = omega arith in ap Some same

pub bad-last : (before : Option ℕ) (f : ℕ → ℕ) → or_now before (option_map f None) ≡ before
bad-last None f = refl
bad-last (Some n) f = refl

-- lines part by part
pub bad-append : (ss : List LineStep) (a b : List Line)
    → bad_line ss (a ++ b) ≡ or_now (bad_line ss a) (option_map (λ n. n + length a) (bad_line (left ss a) b))
unfolding left
bad-append ss [] b = bad-first (bad_line ss b) ∙ ap (λ o. or_now o (option_map (λ n. n + 0) (bad_line ss b))) (sym (bad-nil ss))
bad-append ss (l ∷ a) b =
    bad-cons ss l (a ++ b)
    ∙ ap (λ o. if has_failed (row_after ss l.text) then Some 0 else option_map (λ n. n + 1) o) (bad-append (row_after ss l.text) a b)
    ∙ by (has_failed (row_after ss l.text)) (bad_line (row_after ss l.text) a) (bad_line (left (row_after ss l.text) a) b)
    ∙ ap (λ o. or_now o (option_map (λ n. n + suc (length a)) (bad_line (left (row_after ss l.text) a) b))) (sym (bad-cons ss l a))
  where
    by : (failed : Bool) (x y : Option ℕ) → (if failed then Some 0 else option_map (λ n. n + 1) (or_now x (option_map (λ n. n + length a) y)))
        ≡ or_now (if failed then Some 0 else option_map (λ n. n + 1) x) (option_map (λ n. n + suc (length a)) y)
    by true x y = refl
    by false (Some n) y = refl
    by false None None = refl
    by false None (Some n) = let same : (n + length a) + 1 ≡ n + suc (length a) = omega arith in ap Some same

-- no check failed while no line failed one
pub good-left : (ss : List LineStep) (ls : List Line) → has_failed ss ≡ false → bad_line ss ls ≡ None → has_failed (left ss ls) ≡ false
unfolding left
good-left ss [] start good = start
good-left ss (l ∷ ls) start good = by (has_failed (row_after ss l.text)) refl (bad_line (row_after ss l.text) ls) refl (sym (bad-cons ss l ls) ∙ good)
    (good-left (row_after ss l.text) ls)
  where
    by : (b : Bool) → has_failed (row_after ss l.text) ≡ b → (o : Option ℕ) → bad_line (row_after ss l.text) ls ≡ o
        → (if b then Some 0 else option_map (λ n. n + 1) o) ≡ None
        → (has_failed (row_after ss l.text) ≡ false → bad_line (row_after ss l.text) ls ≡ None → has_failed (left (row_after ss l.text) ls) ≡ false)
        → has_failed (left (row_after ss l.text) ls) ≡ false
    by true is o same none on = absurd (none-some _ (sym none))
    by false is None same none on = on is same
    by false is (Some n) same none on = absurd (none-some _ (sym none))

or-right : (a b : Bool) → (a || b) ≡ false → b ≡ false
or-right false b is = is
or-right true b is = absurd (true≢false is)

or-true : (a b : Bool) → b ≡ true → (a || b) ≡ true
or-true true b is = refl
or-true false b is = is

neither : (a b c : Bool) → b ≡ true → c ≡ false → ((a && not b) || c) ≡ false
neither true true c is none = none
neither true false c is none = absurd (true≢false (sym is))
neither false b c is none = none

-- steps that are over stay so
pub over-after : (ss : List LineStep) (text : List ℕ) → is_over ss ≡ true → is_over (row_after ss text) ≡ true
unfolding row_after
over-after [] text is = absurd (true≢false (sym is))
over-after (s ∷ ss) text is = by (takes_none s) refl (does s text) (λ t. over-after ss t) is
  where
    still : (s : LineStep) → takes_none s ≡ true → takes_none (after_one s text) ≡ true
    still (Take n) none = let zero_is : n ≡ 0 = eqb-true n 0 none in ap (λ m. (m - 1) == 0) zero_is
    still Failed none = refl
    still (Filter t) none = none
    still (Select f) none = none
    still (Skip n) none = none
    still (TakeWhile t) none = absurd (true≢false (sym none))
    still (SkipWhile t) none = absurd (true≢false (sym none))
    still (Distinct k) none = none
    still (Check t) none = absurd (true≢false (sym none))

    rest : (d : Option (List ℕ)) → ((t : List ℕ) → is_over ss ≡ true → is_over (row_after ss t) ≡ true) → is_over ss ≡ true
        → is_over (later ss (row_after ss) d) ≡ true
    rest None each over = over
    rest (Some t) each over = each t over

    by : (b : Bool) → takes_none s ≡ b → (d : Option (List ℕ)) → ((t : List ℕ) → is_over ss ≡ true → is_over (row_after ss t) ≡ true)
        → (b || is_over ss) ≡ true → (takes_none (after_one s text) || is_over (later ss (row_after ss) d)) ≡ true
    by true none d each over = ap (λ b. b || is_over (later ss (row_after ss) d)) (still s none)
    by false none d each over = or-true (takes_none (after_one s text)) _ (rest d each over)

-- and no line fails a check of them
pub good-after : (ss : List LineStep) (text : List ℕ) → is_over ss ≡ true → has_failed ss ≡ false → has_failed (row_after ss text) ≡ false
unfolding row_after
good-after [] text is good = good
good-after (s ∷ ss) text is good = by (takes_none s) refl (λ t. over-after ss t) (λ t. good-after ss t) is
  where
    stopped : (s : LineStep) → takes_none s ≡ true → ((is_failed s && not (is_over ss)) || has_failed ss) ≡ false
        → ((is_failed (after_one s text) && not (is_over (later ss (row_after ss) (does s text))))
        || has_failed (later ss (row_after ss) (does s text))) ≡ false
    stopped (Take zero) none all = all
    stopped (Take (suc n)) none all = let is_zero : suc n ≡ 0 = eqb-true (suc n) 0 none in absurd (omega (is_zero, arith))
    stopped Failed none all = all
    stopped (Filter t) none all = absurd (true≢false (sym none))
    stopped (Select f) none all = absurd (true≢false (sym none))
    stopped (Skip n) none all = absurd (true≢false (sym none))
    stopped (TakeWhile t) none all = absurd (true≢false (sym none))
    stopped (SkipWhile t) none all = absurd (true≢false (sym none))
    stopped (Distinct k) none all = absurd (true≢false (sym none))
    stopped (Check t) none all = absurd (true≢false (sym none))

    rest : (d : Option (List ℕ)) → ((t : List ℕ) → is_over ss ≡ true → is_over (row_after ss t) ≡ true)
        → ((t : List ℕ) → is_over ss ≡ true → has_failed ss ≡ false → has_failed (row_after ss t) ≡ false) → is_over ss ≡ true → has_failed ss ≡ false
        → (is_over (later ss (row_after ss) d) ≡ true) × (has_failed (later ss (row_after ss) d) ≡ false)
    rest None over each o g = (o, g)
    rest (Some t) over each o g = (over t o, each t o g)

    by : (b : Bool) → takes_none s ≡ b → ((t : List ℕ) → is_over ss ≡ true → is_over (row_after ss t) ≡ true)
        → ((t : List ℕ) → is_over ss ≡ true → has_failed ss ≡ false → has_failed (row_after ss t) ≡ false) → (b || is_over ss) ≡ true
        → ((is_failed (after_one s text) && not (is_over (later ss (row_after ss) (does s text))))
        || has_failed (later ss (row_after ss) (does s text))) ≡ false
    by true none over each o = stopped s none good
    by false none over each o =
        let both = rest (does s text) over each o (or-right _ _ good) in
        neither (is_failed (after_one s text)) _ _ both.0 both.1

-- so of steps that are over no line is bad
pub bad-over : (ss : List LineStep) (ls : List Line) → is_over ss ≡ true → has_failed ss ≡ false → bad_line ss ls ≡ None
bad-over ss [] over good = bad-nil ss
bad-over ss (l ∷ ls) over good =
    bad-cons ss l ls
    ∙ ap (λ b. if b then Some 0 else option_map (λ n. n + 1) (bad_line (row_after ss l.text) ls)) (good-after ss l.text over good)
    ∙ ap (option_map (λ n. n + 1)) (bad-over (row_after ss l.text) ls (over-after ss l.text over) (good-after ss l.text over good))

-- no step becomes a check
pub checks-after : (ss : List LineStep) (text : List ℕ) → has_check ss ≡ false → has_check (row_after ss text) ≡ false
unfolding row_after
checks-after [] text none = none
checks-after (s ∷ ss) text none = by s (does s text) (λ t. checks-after ss t) none
  where
    rest : (d : Option (List ℕ)) → ((t : List ℕ) → has_check ss ≡ false → has_check (row_after ss t) ≡ false) → has_check ss ≡ false
        → has_check (later ss (row_after ss) d) ≡ false
    rest None each free = free
    rest (Some t) each free = each t free

    while_free : (b : Bool) (x y : LineStep) → is_check x ≡ false → is_check y ≡ false → is_check (cond b x y) ≡ false
    while_free true x y first other = first
    while_free false x y first other = other

    both : (a b : Bool) → a ≡ false → b ≡ false → (a || b) ≡ false
    both a b first other = ap (λ x. x || b) first ∙ other

    by : (s : LineStep) (d : Option (List ℕ)) → ((t : List ℕ) → has_check ss ≡ false → has_check (row_after ss t) ≡ false)
        → (is_check s || has_check ss) ≡ false → (is_check (after_one s text) || has_check (later ss (row_after ss) d)) ≡ false
    by (Filter t) d each free = rest d each free
    by (Select f) d each free = rest d each free
    by (Take n) d each free = rest d each free
    by (Skip n) d each free = rest d each free
    by (TakeWhile t) d each free = both _ _ (while_free (passes t text) (TakeWhile t) (Take 0) refl refl) (rest d each free)
    by (SkipWhile t) d each free = both _ _ (while_free (passes t text) (SkipWhile t) (Skip 0) refl refl) (rest d each free)
    by (Distinct k) d each free = rest d each free
    by (Check t) d each free = absurd (true≢false free)
    by Failed d each free = absurd (true≢false free)

-- without a check none failed
none-failed : (c : List LineStep) → has_check c ≡ false → has_failed c ≡ false
none-failed [] free = refl
none-failed (Filter t ∷ c) free = none-failed c free
none-failed (Select f ∷ c) free = none-failed c free
none-failed (Take n ∷ c) free = none-failed c free
none-failed (Skip n ∷ c) free = none-failed c free
none-failed (TakeWhile t ∷ c) free = none-failed c free
none-failed (SkipWhile t ∷ c) free = none-failed c free
none-failed (Distinct k ∷ c) free = none-failed c free
none-failed (Check t ∷ c) free = absurd (true≢false free)
none-failed (Failed ∷ c) free = absurd (true≢false free)

none-failed-behind : (w c : List LineStep) → are_steady w ≡ true → has_check c ≡ false → has_failed (w ++ c) ≡ false
none-failed-behind [] c are free = none-failed c free
none-failed-behind (Filter t ∷ w) c are free = none-failed-behind w c are free
none-failed-behind (Select f ∷ w) c are free = none-failed-behind w c are free
none-failed-behind (Take n ∷ w) c are free = absurd (true≢false (sym are))
none-failed-behind (Skip n ∷ w) c are free = none-failed-behind w c (and_parts _ _ are).1 free
none-failed-behind (TakeWhile t ∷ w) c are free = none-failed-behind w c are free
none-failed-behind (SkipWhile t ∷ w) c are free = none-failed-behind w c are free
none-failed-behind (Distinct k ∷ w) c are free = absurd (true≢false (sym are))
none-failed-behind (Check t ∷ w) c are free = none-failed-behind w c are free
none-failed-behind (Failed ∷ w) c are free = absurd (true≢false (sym are))

-- no line is bad while the steps with checks stay as they are
pub bad-steady : (w c : List LineStep) (ls ms : List Line) → are_steady w ≡ true → has_check c ≡ false → steady_lines w ls ≡ Some ms
    → bad_line (w ++ c) ls ≡ None
bad-steady w c [] ms are free is = bad-nil (w ++ c)
bad-steady w c (l ∷ ls) ms are free is =
    let m = first-made (row_steady w) l ls ms is in
    let on = row-first w c l.text m.first m.first_is in
    let still = rest m.first (λ t. checks-after c t free) in
    bad-cons (w ++ c) l ls
    ∙ ap (λ x. if has_failed x then Some 0 else option_map (λ n. n + 1) (bad_line x ls)) on
    ∙ ap (λ b. if b then Some 0 else option_map (λ n. n + 1) (bad_line (w ++ later c (row_after c) m.first) ls)) (none-failed-behind w _ are still)
    ∙ ap (option_map (λ n. n + 1)) (bad-steady w (later c (row_after c) m.first) ls m.others are still m.others_are)
  where
    rest : (d : Option (List ℕ)) → ((t : List ℕ) → has_check (row_after c t) ≡ false) → has_check (later c (row_after c) d) ≡ false
    rest None each = free
    rest (Some t) each = each t

-- a check stays one
pub checks-left : (ss : List LineStep) (ls : List Line) → has_check (left ss ls) ≡ true → has_check ss ≡ true
unfolding left
checks-left ss [] has = has
checks-left ss (l ∷ ls) has = by (has_check ss) refl (checks-left (row_after ss l.text) ls has)
  where
    by : (b : Bool) → has_check ss ≡ b → has_check (row_after ss l.text) ≡ true → b ≡ true
    by true is after = refl
    by false is after = absurd (true≢false (sym after ∙ checks-after ss l.text is))

-- where a line is bad there is a check
pub has-check : (ss : List LineStep) (ls : List Line) (n : ℕ) → bad_line ss ls ≡ Some n → has_check ss ≡ true
unfolding row_steady
has-check ss ls n bad = by (has_check ss) refl
  where
    none : (ls : List Line) → steady_lines [] ls ≡ Some ls
    none [] = refl
    none (l ∷ ls) = ap (with_line l (Some (Some l.text))) (none ls)

    by : (b : Bool) → has_check ss ≡ b → b ≡ true
    by true is = refl
    by false is = absurd (none-some _ (sym (bad-steady [] ss ls ls refl is (none ls)) ∙ bad))
