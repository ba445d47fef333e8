-- From the items that were fed to the answer to the whole trace.
use Rattle.std.specs.Prelude.{◌≡◌, ℕ, ◌+◌, ◌-◌, ◌<◌, ◌≤◌, List, [], ◌∷◌, ◌++◌, length, take, drop, nat_lt, if◌then◌else◌, Bool, true, false, Option}
use Rattle.std.specs.Prelude.{Some, None, IsSome, refl}
use Rattle.std.proofs.Common.{sym, ◌∙◌, ap, arith, append-nil, append_assoc, length-drop}
use Rattle.std.proofs.lemmas.Bool.Decides.{nat_tests}
use Rattle.std.proofs.lemmas.List.{take-append-drop, take-take, take_all, length-take, length-take-le, length-append}
use Rattle.std.proofs.Math.Seq.{take-length, take-append_seam}
use Rattle.plinq_source.specs.declared.ending.Ending.{Ending}
use Rattle.plinq_source.specs.declared.ending.Ending.TheVariants.{End, Refused}
use Rattle.plinq_source.specs.declared.step.Step.{Step}
use Rattle.plinq_source.specs.declared.step.Step.TheVariants.{Item, End as StepEnd, Refused as StepRefused}
use Rattle.plinq_source.specs.Trace.{Trace, open_trace, ended_trace, followed_by, step_at, given_after, items_from, ending_within, IsSourceEnding}
use Rattle.plinq_source.proofs.Followed.{trace_of, followed_by-ended}
use Rattle.plinq_source.proofs.Steps.{IsNextItem, IsAtEnding, next_item, at_end, at_refusal}
use Rattle.plinq_ops.specs.Stage.{Stage, seq, some_takes_none}
use Rattle.plinq_ops.specs.Feeding.{IsFed, FeedsFrom, IsGiven, trace_of_step, seen_trace}
use Rattle.plinq_ops.specs.Sequential.{first_items, IsLeastDeciding, IsDecidingInBlocks}
use Rattle.plinq_ops.proofs.Stages.{seq-followed_by}
use Rattle.plinq_ops.proofs.Open.{seq-open_before, seq-takes_none, open-from_seq}
use Rattle.plinq_ops.proofs.Fed.{fed-followed_by, fed-ended_before}

given-item : {T : Type 0} (t : Trace T) (n : ℕ) (x : T) → IsNextItem t n x → IsGiven t n (open_trace (x ∷ [])) (n + 1)
given-item t n x next =
    record {
      joined = ap open_trace (sym next.taken);
      within = omega (arith, next.within);
      grows = λ is_open. omega arith;
      all = λ some. absurd (let bad : false ≡ true = some in cc);
    }

-- all items were given, and then the ending
all-given : {T : Type 0} (t : Trace T) (n : ℕ) (xs : List T) (m : ℕ) (e : Ending) → take n t.items ++ xs ≡ t.items → m ≡ length t.items → t.ending ≡ Some e
    → IsGiven t n (ended_trace xs e) m
all-given t n xs m e parts all ends =
    record {
      joined = ap (λ ys. ended_trace ys e) parts ∙ ap (trace_of t.items) (sym ends);
      within = omega (arith, all);
      grows = λ bad. absurd (cc);
      all = λ some. all;
    }

given-ending : {T : Type 0} (t : Trace T) (n : ℕ) (e : Ending) → IsAtEnding t n e → IsGiven t n (ended_trace [] e) n
given-ending t n e at_ending =
    all-given t n [] n e (append-nil (take n t.items) ∙ rw at_ending.all (take-length t.items)) at_ending.all at_ending.ends

-- one step of a source
given-step : {T : Type 0} (t : Trace T) (n : ℕ) (step : Step T) → IsSourceEnding t.ending → n ≤ length t.items → step_at t n ≡ step
    → IsGiven t n (trace_of_step step) (given_after t n)
given-step t n (Item x) ends within is = let next = next_item t n x is in rw next.moved (given-item t n x next)
given-step t n StepEnd ends within is = let ending = at_end t n ends within is in rw ending.moved (given-ending t n End ending)
given-step t n (StepRefused code) ends within is = let ending = at_refusal t n code within is in rw ending.moved (given-ending t n (Refused code) ending)

-- what a source answers that walks this trace
pub given-next : {T : Type 0} (t : Trace T) (n m : ℕ) (step : Step T) → IsSourceEnding t.ending → n ≤ length t.items → step ≡ step_at t n
    → m ≡ given_after t n → IsGiven t n (trace_of_step step) m
given-next t n m step ends within is moved = rw moved (given-step t n step ends within (sym is))

-- the next items of a list after the first
take-block : {T : Type 0} (xs : List T) (n most : ℕ) → n ≤ length xs → take (n + length (take most (drop n xs))) xs ≡ take n xs ++ take most (drop n xs)
take-block {T} xs n most within =
    let block : List T = take most (drop n xs) in
    let others : block ++ drop most (drop n xs) ≡ drop n xs = take-append-drop most (drop n xs) in
    let long : length (take n xs) ≡ n = length-take-le n xs within in
    let whole : (take n xs ++ block) ++ drop most (drop n xs) ≡ xs =
    append_assoc (take n xs) block (drop most (drop n xs)) ∙ ap (λ ys. take n xs ++ ys) others ∙ take-append-drop n xs in
    let count : n + length block ≡ length (take n xs ++ block) = ap (λ k. k + length block) (sym long) ∙ sym (length-append (take n xs) block) in
    ap (λ k. take k xs) count ∙ ap (take (length (take n xs ++ block))) (sym whole) ∙ take-append_seam (take n xs ++ block) (drop most (drop n xs))

given-last : {T : Type 0} (t : Trace T) (n : ℕ) (xs : List T) (m : ℕ) (o : Option Ending) → take n t.items ++ xs ≡ t.items → m ≡ length t.items
    → t.ending ≡ o → IsSourceEnding o → IsGiven t n (trace_of xs o) m
given-last t n xs m None parts all is ends = absurd ends
given-last t n xs m (Some e) parts all is ends = all-given t n xs m e parts all is

-- where fewer are left than were asked for, all are given
given-if : {T : Type 0} (t : Trace T) (n most : ℕ) (b : Bool) → 0 < most → n ≤ length t.items → nat_lt (length t.items - n) most ≡ b → IsSourceEnding t.ending
    → IsGiven t n (trace_of (items_from t n most) (if b then t.ending else None)) (n + length (items_from t n most))
given-if t n most true some within less ends =
    let few : length t.items - n < most = grind (arith, nat_tests) in
    let rest : items_from t n most ≡ drop n t.items = take_all most (drop n t.items) (omega (arith, few, length-drop n t.items)) in
    let parts : take n t.items ++ items_from t n most ≡ t.items = ap (λ xs. take n t.items ++ xs) rest ∙ take-append-drop n t.items in
    let count : n + length (items_from t n most) ≡ length t.items = omega (arith, within, few, length-take most (drop n t.items), length-drop n t.items) in
    given-last t n (items_from t n most) (n + length (items_from t n most)) t.ending parts count refl ends
given-if t n most false some within less ends =
    let many : most ≤ length t.items - n = grind (arith, nat_tests) in
    let count : length (items_from t n most) ≡ most = omega (arith, within, many, length-take most (drop n t.items), length-drop n t.items) in
    record {
      joined = ap open_trace (sym (take-block t.items n most within));
      within = omega (arith, within, many, count);
      grows = λ is_open. omega (arith, some, count);
      all = λ some. absurd (let bad : false ≡ true = some in cc);
    }

-- and a block of it
pub given-fill : {T : Type 0} (t : Trace T) (n most m : ℕ) (xs : List T) (o : Option Ending) → 0 < most → IsSourceEnding t.ending → n ≤ length t.items
    → xs ≡ items_from t n most → o ≡ ending_within t n most → m ≡ n + length (items_from t n most) → IsGiven t n (trace_of xs o) m
given-fill t n most m xs o some ends within items ending moved =
    rw (moved, items, ending) (given-if t n most (nat_lt (length t.items - n) most) some within refl ends)

-- ---- what was fed of it

-- what comes after the first items is fed as well
fed-given : {T : Type 0} (ss ss' ss'' : List (Stage T)) (t p : Trace T) (n m : ℕ) (before between after : List T) (e : Option Ending) → IsGiven t n p m
    → IsFed ss (first_items n t) before between ss' None → IsFed ss' p between after ss'' e → IsFed ss (seen_trace m t p.ending) before after ss'' e
fed-given ss ss' ss'' t p n m before between after e given first second =
    rw given.joined at (fed-followed_by ss ss' ss'' (first_items n t) p before between after e first second)

-- it leaves the answer open
pub fed-on : {T : Type 0} (ss ss' ss'' : List (Stage T)) (t : Trace T) (n m : ℕ) (before between after : List T)
    → IsFed ss (first_items n t) before between ss' None → FeedsFrom ss' t n m between after ss'' None → IsFed ss (first_items m t) before after ss'' None
fed-on ss ss' ss'' t n m before between after first next =
    let is_open : next.piece.ending ≡ None = open-from_seq ss' next.piece (sym next.fed.told) in
    rw is_open at (fed-given ss ss' ss'' t next.piece n m before between after None next.given first next.fed)

-- the first items and the rest
first_items-followed_by : {T : Type 0} (t : Trace T) (n : ℕ) → followed_by (first_items n t) (trace_of (drop n t.items) t.ending) ≡ t
first_items-followed_by t n = ap (λ xs. trace_of xs t.ending) (take-append-drop n t.items)

-- where the first items decide the answer, it is the answer to all
pub fed-decided : {T : Type 0} (ss ss' ss'' : List (Stage T)) (t : Trace T) (n : ℕ) (before after : List T) (e : Ending)
    → IsFed ss (first_items n t) before after ss' (Some e) → IsFed ss t before after ss'' (Some e)
fed-decided ss ss' ss'' t n before after e fed =
    let whole = first_items-followed_by t n in
    rw whole at (fed-ended_before ss ss' ss'' (first_items n t) (trace_of (drop n t.items) t.ending) before after (Some e) refl fed)

-- fewer are left then
pub feeds-smaller : {T : Type 0} (ss ss' : List (Stage T)) (t : Trace T) (n m : ℕ) (before after : List T) → FeedsFrom ss t n m before after ss' None
    → length t.items - m < length t.items - n
feeds-smaller ss ss' t n m before after next = omega (arith, next.given.grows (open-from_seq ss next.piece (sym next.fed.told)), next.given.within)

decided-seen_trace : {T : Type 0} (ss ss'' : List (Stage T)) (t : Trace T) (m : ℕ) (before after : List T) (o : Option Ending) (e : Ending)
    → IsFed ss (seen_trace m t o) before after ss'' (Some e) → IsFed ss t before after ss'' (Some e)
decided-seen_trace ss ss'' t m before after None e fed = fed-decided ss ss'' ss'' t m before after e fed
decided-seen_trace ss ss'' t m before after (Some f) e fed = fed

-- it decides the answer
pub fed-over : {T : Type 0} (ss ss' ss'' : List (Stage T)) (t : Trace T) (n m : ℕ) (before between after : List T) (e : Ending)
    → IsFed ss (first_items n t) before between ss' None → FeedsFrom ss' t n m between after ss'' (Some e) → IsFed ss t before after ss'' (Some e)
fed-over ss ss' ss'' t n m before between after e first next =
    decided-seen_trace ss ss'' t m before after next.piece.ending e (fed-given ss ss' ss'' t next.piece n m before between after
    (Some e) next.given first next.fed)

-- where so many items leave the answer open, fewer do
open-up_to : {T : Type 0} (ss : List (Stage T)) (t : Trace T) (n j : ℕ) → (seq ss (first_items n t)).ending ≡ None → j ≤ n
    → (seq ss (first_items j t)).ending ≡ None
open-up_to ss t n j is_open fewer =
    let parts : followed_by (first_items j t) (open_trace (drop j (take n t.items))) ≡ first_items n t =
    ap (λ xs. open_trace (xs ++ drop j (take n t.items))) (sym (take-take j n t.items fewer)) ∙ ap open_trace (take-append-drop j (take n t.items)) in
    seq-open_before ss (first_items j t) (open_trace (drop j (take n t.items))) (ap (λ u. (seq ss u).ending) parts ∙ is_open)

decided-where_open : {T : Type 0} (ss ss'' : List (Stage T)) (t : Trace T) (m : ℕ) (before after : List T) (o : Option Ending) (e : Ending)
    → (IsSome o → m ≡ length t.items)
    → IsFed ss (seen_trace m t o) before after ss'' (Some e) → m < length t.items → IsSome (seq ss (first_items m t)).ending
decided-where_open ss ss'' t m before after None e all fed fewer = rw (← fed.told) refl
decided-where_open ss ss'' t m before after (Some f) e all fed fewer = absurd (omega (arith, fewer, all refl))

-- the items before the last block don't decide it
pub deciding-over : {T : Type 0} (size : ℕ) (ss ss' ss'' : List (Stage T)) (t : Trace T) (n m : ℕ) (before between after : List T) (e : Ending) → m ≤ n + size
    → IsFed ss (first_items n t) before between ss' None → FeedsFrom ss' t n m between after ss'' (Some e) → IsDecidingInBlocks size ss t m
deciding-over size ss ss' ss'' t n m before between after e block first next =
    record {
      within = next.given.within;
      open_before = λ some. open-up_to ss t n (m - size) (sym first.told) (omega (arith, block));
      decided =
          decided-where_open ss ss'' t m before after next.piece.ending e next.given.all (fed-given ss ss' ss'' t next.piece n m before between after
          (Some e) next.given first next.fed);
    }

-- nor do those before the last of greater blocks
pub deciding-wider : {T : Type 0} (size most : ℕ) (ss : List (Stage T)) (t : Trace T) (n : ℕ) → size ≤ most → IsDecidingInBlocks size ss t n
    → IsDecidingInBlocks most ss t n
deciding-wider size most ss t n wider is =
    record { within = is.within; open_before = λ some. open-up_to ss t (n - size) (n - most) (is.open_before some) (omega arith); decided = is.decided }

-- where they come one by one, no fewer decide it
pub deciding-singly : {T : Type 0} (ss : List (Stage T)) (t : Trace T) (n : ℕ) → IsDecidingInBlocks 1 ss t n → IsLeastDeciding ss t n
deciding-singly ss t n is =
    record { within = is.within; open_before = λ j below. open-up_to ss t (n - 1) j (is.open_before (omega arith)) (omega arith); decided = is.decided }

pub least-over : {T : Type 0} (ss ss' ss'' : List (Stage T)) (t : Trace T) (n m : ℕ) (before between after : List T) (e : Ending) → m ≤ n + 1
    → IsFed ss (first_items n t) before between ss' None → FeedsFrom ss' t n m between after ss'' (Some e) → IsLeastDeciding ss t m
least-over ss ss' ss'' t n m before between after e one first next =
    deciding-singly ss t m (deciding-over 1 ss ss' ss'' t n m before between after e one first next)

-- a Take of none decides the answer with no item
pub answer-of_none : {T : Type 0} (ss : List (Stage T)) (t : Trace T) → some_takes_none ss ≡ true → seq ss t ≡ ended_trace [] End
answer-of_none ss t none =
    seq-followed_by ss (open_trace []) t ∙ followed_by-ended (seq ss (open_trace [])) _ End (ap (λ u. u.ending) (seq-takes_none ss none))
    ∙ seq-takes_none ss none

pub deciding-of_none : {T : Type 0} (size : ℕ) (ss : List (Stage T)) (t : Trace T) → some_takes_none ss ≡ true → IsDecidingInBlocks size ss t 0
deciding-of_none size ss t none =
    record {
      within = omega arith;
      open_before = λ some. absurd (omega arith);
      decided = λ fewer. rw (seq-takes_none ss none) refl;
    }

pub least-of_none : {T : Type 0} (ss : List (Stage T)) (t : Trace T) → some_takes_none ss ≡ true → IsLeastDeciding ss t 0
least-of_none ss t none = deciding-singly ss t 0 (deciding-of_none 1 ss t none)

-- the answer to all that was fed, begun with nothing
pub answer-fed : {T : Type 0} (ss ss' : List (Stage T)) (t : Trace T) (before after : List T) (e : Ending) → before ≡ []
    → IsFed ss t before after ss' (Some e) → ended_trace after e ≡ seq ss t
answer-fed ss ss' t before after e none fed =
    let items : after ≡ (seq ss t).items = fed.items ∙ ap (λ xs. xs ++ (seq ss t).items) none in
    ap (λ xs. ended_trace xs e) items ∙ ap (trace_of (seq ss t).items) fed.told
