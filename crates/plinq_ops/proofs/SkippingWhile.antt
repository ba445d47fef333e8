-- What is left of a SkipWhile after items is a SkipWhile that goes on from there.
use Rattle.std.specs.Prelude.{◌≡◌, ℕ, List, [], ◌∷◌, ◌++◌, length, take, drop, ◌==◌, Bool, true, false, cond, Option, Some, None, is_some, Result, Ok}
use Rattle.std.specs.Prelude.{Err, refl}
use Rattle.std.proofs.Common.{◌≤◌, suc, ◌∙◌, ap, sym, arith}
use Rattle.std.proofs.lemmas.Bool.Decides.{nat_tests}
use Rattle.std.proofs.lemmas.List.{length-take-le}
use Rattle.plinq_source.specs.declared.ending.Ending.{Ending}
use Rattle.plinq_source.specs.declared.ending.Ending.TheVariants.{Fault}
use Rattle.plinq_source.specs.Trace.{Trace, open_trace, ended_trace, followed_by}
use Rattle.plinq_lambda.specs.Block.{BlockResult, passing_from, passing_block}
use Rattle.plinq_ops.specs.SkipWhile.{skipped_from, skipped_while, still_skips, all_pass}
use Rattle.plinq_ops.specs.Stage.{Stage, skipping_while, unchanged, apply, stage_after}

-- what is left where all items so far pass, or not
abbrev pub left_while : {T : Type 0} → (T → Result Bool ℕ) → Bool → Stage T
left_while test passing = cond passing (skipping_while test) unchanged

append-first : {T : Type 0} (test : T → Result Bool ℕ) (r : Result Bool ℕ) (x : T) (xs : List T) (b : Trace T)
    → skipped_while test (xs ++ b.items) b.ending ≡ followed_by (skipped_while test xs None) (apply (left_while test (all_pass test xs)) b)
    → skipped_from r (x ∷ xs ++ b.items) b.ending (skipped_while test (xs ++ b.items) b.ending)
    ≡ followed_by (skipped_from r (x ∷ xs) None (skipped_while test xs None)) (apply (left_while test (still_skips r (all_pass test xs))) b)
append-first test (Ok true) x xs b rest = rest
append-first test (Ok false) x xs b rest = refl
append-first test (Err code) x xs b rest = refl

-- a trace after items
pub skipped_while-append : {T : Type 0} (test : T → Result Bool ℕ) (xs : List T) (b : Trace T)
    → skipped_while test (xs ++ b.items) b.ending ≡ followed_by (skipped_while test xs None) (apply (stage_after (skipping_while test) xs) b)
skipped_while-append test [] b = refl
skipped_while-append test (x ∷ xs) b = append-first test (test x) x xs b (skipped_while-append test xs b)

ended-first : {T : Type 0} (r : Result Bool ℕ) (xs : List T) (e : Ending) (rest b : Trace T) → rest ≡ followed_by rest b
    → skipped_from r xs (Some e) rest ≡ followed_by (skipped_from r xs (Some e) rest) b
ended-first (Ok true) xs e rest b same = same
ended-first (Ok false) xs e rest b same = refl
ended-first (Err code) xs e rest b same = refl

-- nothing follows a trace that has ended
pub skipped_while-ended : {T : Type 0} (test : T → Result Bool ℕ) (xs : List T) (e : Ending) (b : Trace T)
    → skipped_while test xs (Some e) ≡ followed_by (skipped_while test xs (Some e)) b
skipped_while-ended test [] e b = refl
skipped_while-ended test (x ∷ xs) e b = ended-first (test x) (x ∷ xs) e (skipped_while test xs (Some e)) b (skipped_while-ended test xs e b)

is_some-first : {T : Type 0} (r : Result Bool ℕ) (xs : List T) (e : Option Ending) (rest : Trace T) → is_some e ≡ true → is_some rest.ending ≡ true
    → is_some (skipped_from r xs e rest).ending ≡ true
is_some-first (Ok true) xs e rest ends others = others
is_some-first (Ok false) xs e rest ends others = ends
is_some-first (Err code) xs e rest ends others = refl

pub is_some-skipped_while : {T : Type 0} (test : T → Result Bool ℕ) (xs : List T) (e : Option Ending) → is_some e ≡ true
    → is_some (skipped_while test xs e).ending ≡ true
is_some-skipped_while test [] e ends = ends
is_some-skipped_while test (x ∷ xs) e ends = is_some-first (test x) (x ∷ xs) e (skipped_while test xs e) ends (is_some-skipped_while test xs e ends)

after-first : {T : Type 0} (test : T → Result Bool ℕ) (r : Result Bool ℕ) (now all : Bool) (ys : List T)
    → stage_after (left_while test now) ys ≡ left_while test all → stage_after (left_while test (still_skips r now)) ys ≡ left_while test (still_skips r all)
after-first test (Ok true) now all ys rest = rest
after-first test (Ok false) now all ys rest = refl
after-first test (Err code) now all ys rest = refl

pub after-skipping_while : {T : Type 0} (test : T → Result Bool ℕ) (xs ys : List T)
    → stage_after (stage_after (skipping_while test) xs) ys ≡ stage_after (skipping_while test) (xs ++ ys)
after-skipping_while test [] ys = refl
after-skipping_while test (x ∷ xs) ys = after-first test (test x) (all_pass test xs) (all_pass test (xs ++ ys)) ys (after-skipping_while test xs ys)

-- ---- a block, by the items before the first that fails

pub record IsCounted {T : Type 0} (skipped : Trace T) (all : Bool) (xs : List T) (passing : BlockResult T) : Type 0 where
  pub faulted : (code : ℕ) → passing.fault ≡ Some code → (skipped ≡ ended_trace [] (Fault code)) × (all ≡ false)
  pub stopped : passing.fault ≡ None → (skipped ≡ open_trace (drop (length passing.items) xs)) × (all ≡ (length passing.items == length xs))

fault_is : {a b : ℕ} → Some a ≡ Some b → a ≡ b
fault_is same = cc

counted-first : {T : Type 0} (r : Result Bool ℕ) (x : T) (xs : List T) (skipped : Trace T) (all : Bool) (passing : BlockResult T)
    → IsCounted skipped all xs passing
    → IsCounted (skipped_from r (x ∷ xs) None skipped) (still_skips r all) (x ∷ xs) (passing_from r x passing)
counted-first (Ok true) x xs skipped all passing rest =
    let same : (length passing.items == length xs) ≡ (suc (length passing.items) == suc (length xs)) = grind (arith, nat_tests) in
    record { faulted = rest.faulted; stopped = λ none. let stops = rest.stopped none in (stops.0, stops.1 ∙ same) }
counted-first (Ok false) x xs skipped all passing rest =
    let fewer : false ≡ (0 == suc (length xs)) = grind (arith, nat_tests) in
    record { faulted = λ code bad. absurd (cc); stopped = λ none. (refl, fewer) }
counted-first (Err code) x xs skipped all passing rest =
    record { faulted = λ other is. (ap (λ c. ended_trace [] (Fault c)) (fault_is is), refl); stopped = λ bad. absurd (cc) }

pub counted : {T : Type 0} (test : T → Result Bool ℕ) (xs : List T) → IsCounted (skipped_while test xs None) (all_pass test xs) xs (passing_block test xs)
counted test [] = record { faulted = λ code bad. absurd (cc); stopped = λ none. (refl, refl) }
counted test (x ∷ xs) = counted-first (test x) x xs (skipped_while test xs None) (all_pass test xs) (passing_block test xs) (counted test xs)

-- so many of a block pass before one faults
pub skipped-faulted : {T : Type 0} (test : T → Result Bool ℕ) (xs : List T) (n code : ℕ) (fault : Option ℕ)
    → record { items = take n xs; fault = fault } ≡ passing_block test xs → fault ≡ Some code
    → (skipped_while test xs None ≡ ended_trace [] (Fault code)) × (all_pass test xs ≡ false)
skipped-faulted test xs n code fault same is = (counted test xs).faulted code (ap (λ b. b.fault) (sym same) ∙ is)

-- so many pass before one fails, or all
pub skipped-stopped : {T : Type 0} (test : T → Result Bool ℕ) (xs : List T) (n : ℕ) (fault : Option ℕ) → n ≤ length xs
    → record { items = take n xs; fault = fault } ≡ passing_block test xs → fault ≡ None
    → (skipped_while test xs None ≡ open_trace (drop n xs)) × (all_pass test xs ≡ (n == length xs))
skipped-stopped test xs n fault within same none =
    let len : length (passing_block test xs).items ≡ n = ap (λ b. length b.items) (sym same) ∙ length-take-le n xs within in
    rw len at ((counted test xs).stopped (ap (λ b. b.fault) (sym same) ∙ none))
