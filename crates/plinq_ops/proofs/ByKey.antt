-- Operators that a worker applies by key: on the element at a position they do what is left of them there.
use Rattle.std.specs.Prelude.{◌≡◌, ℕ, ◌+◌, ◌-◌, ◌<◌, ◌≤◌, ℤ, pos, negsuc, ◌+ℤ◌, ◌-ℤ◌, ◌<ℤ◌, List, [], ◌∷◌, length, drop, Bool, true, false, cond}
use Rattle.std.specs.Prelude.{Option, None, Result, Ok, Err, refl}
use Rattle.std.specs.List.{list_any}
use Rattle.std.proofs.Common.{sym, ◌∙◌, ap, subst, inl, inr, arith}
use Rattle.std.proofs.lemmas.Int.{ints}
use Rattle.std.proofs.lemmas.Bool.{lt-ltb, le-ltb, or_parts, and_parts}
use Rattle.std.proofs.lemmas.List.{drop_all}
use Rattle.std.proofs.lemmas.Bool.Decides.{leb_tells, nat_tests}
use Rattle.std.proofs.Math.Seq.{drop-nil}
use borrow.Author.Differences.{up, down}
use Rattle.plinq_source.specs.declared.ending.Ending.{Ending}
use Rattle.plinq_source.specs.declared.ending.Ending.TheVariants.{End, Fault}
use Rattle.plinq_source.specs.Trace.{Trace, open_trace, ended_trace}
use Rattle.plinq_source.proofs.Followed.{trace_of, followed_by-open_nil}
use Rattle.plinq_lambda.specs.Meaning.{Meaning}
use Rattle.plinq_ops.specs.declared.op.Op.{Op}
use Rattle.plinq_ops.specs.declared.op.Op.TheVariants.{Select, Take, Skip, TakeWhile}
use Rattle.plinq_ops.specs.declared.known.Known.TheVariants.{Key, Position}
use Rattle.plinq_ops.specs.Stage.{Stage, taking, skipping, joined_pieces, taken_trace, skipped_trace, apply, seq, stage_after, seq_after}
use Rattle.plinq_ops.specs.Operator.{item_count, selected_piece, taken_while, stage_of, stages_of, counted_off, stage_left, keeps_count}
use Rattle.plinq_ops.specs.Feeding.{is_empty_take}
use Rattle.plinq_ops.specs.Fragment.{ended_here, taken_at, skipped_at, apply_at, position_after, fragment_at, fragment_of}
use Rattle.plinq_ops.specs.Pipeline.{PipelineView, IsReached, stages}
use Rattle.plinq_ops.specs.ByKey.{can_apply, known_after, is_by_key_from, is_by_key, left_at, passed_on, stages_at}
use Rattle.plinq_ops.proofs.Stages.{taken_trace-short, taken_trace-enough}
use Rattle.plinq_ops.proofs.Open.{open-from_seq}
use Rattle.plinq_ops.proofs.Operators.{stage_left-counted_off}

-- what may stand at a position on the way through operators by key: before position 0 no item; from there on no item
-- and an ending, or the one item, open or the last
data IsAt (T : Type 0) : ℤ → Trace T → Type 0 where
  not_reached : {k : ℕ} (e : Option Ending) → IsAt T (negsuc k) (trace_of [] e)
  no_item : {k : ℕ} (e : Ending) → IsAt T (pos k) (ended_trace [] e)
  one_item : {k : ℕ} (x : T) → IsAt T (pos k) (open_trace (x ∷ []))
  last_item : {k : ℕ} (x : T) → IsAt T (pos k) (ended_trace (x ∷ []) End)

-- no position holds more than one item
length-at : {T : Type 0} {p : ℤ} {t : Trace T} → IsAt T p t → length t.items ≤ 1
length-at (not_reached e) = omega arith
length-at _ = omega arith

-- an item at one position may stand at another
at-moved : {T : Type 0} {k : ℕ} {t : Trace T} (j : ℕ) → IsAt T (pos k) t → IsAt T (pos j) t
at-moved j (no_item e) = no_item e
at-moved j (one_item x) = one_item x
at-moved j (last_item x) = last_item x

at-below : (T : Type 0) (p : ℤ) (e : Option Ending) → p <ℤ pos 0 → IsAt T p (trace_of [] e)
at-below T (pos k) e below = absurd (omega (arith, ints, below))
at-below T (negsuc k) e below = not_reached e

-- what ends here is what a Take of one leaves
at-ended_here : {T : Type 0} {k : ℕ} {t : Trace T} → IsAt T (pos k) t → (ended_here t ≡ taken_trace 1 t) × IsAt T (pos k) (ended_here t)
at-ended_here (no_item e) = (refl, no_item e)
at-ended_here (one_item x) = (refl, last_item x)
at-ended_here (last_item x) = (refl, last_item x)

at-joined_pieces : {T : Type 0} (piece : T → Trace T) {p : ℤ} {t : Trace T} → ((k : ℕ) (x : T) → IsAt T (pos k) (piece x)) → IsAt T p t
    → IsAt T p (joined_pieces piece t.items t.ending)
at-joined_pieces piece each (not_reached e) = not_reached e
at-joined_pieces piece each (no_item e) = no_item e
at-joined_pieces {T} piece each (one_item {k = k} x) = subst (IsAt T (pos k)) (sym (followed_by-open_nil (piece x))) (each k x)
at-joined_pieces piece each (last_item {k = k} x) = (at-ended_here (each k x)).1

at-selected_piece : {T : Type 0} (k : ℕ) (r : Result T ℕ) → IsAt T (pos k) (selected_piece r)
at-selected_piece k (Ok y) = one_item y
at-selected_piece k (Err code) = no_item (Fault code)

at-taken_while : {T : Type 0} (k : ℕ) (r : Result Bool ℕ) (x : T) → IsAt T (pos k) (taken_while r x)
at-taken_while k (Ok true) x = one_item x
at-taken_while k (Ok false) x = no_item End
at-taken_while k (Err code) x = no_item (Fault code)

at-taken_trace : {T : Type 0} (c k : ℕ) (t : Trace T) → 0 < c → IsAt T (pos k) t
    → (taken_at (pos c) (pos k) t ≡ taken_trace (c - k) t) × IsAt T (pos k) (taken_at (pos c) (pos k) t)
at-taken_trace {T} c k t some at =
    let here = at-ended_here at in
    let less : pos c -ℤ pos 1 ≡ pos (c - 1) = omega (arith, ints, some) in
    elim (leb_tells c k) [
      | inl w ↦
          let is : taken_at (pos c) (pos k) t ≡ ended_trace [] End = rw (le-ltb k c w.1) refl in
          let none : c - k ≡ 0 = omega (arith, w.1) in
          (is ∙ sym (ap (λ n. taken_trace n t) none ∙ taken_trace-enough 0 t (omega arith)), rw is (no_item End))
      | inr w ↦ elim (leb_tells (c - 1) k) [
        | inl v ↦
            let is : taken_at (pos c) (pos k) t ≡ ended_here t = rw (lt-ltb k c w.1, less, le-ltb k (c - 1) v.1) refl in
            let one : c - k ≡ 1 = omega (arith, w.1, v.1) in
            (is ∙ here.0 ∙ ap (λ n. taken_trace n t) (sym one), rw is here.1)
        | inr v ↦
            let is : taken_at (pos c) (pos k) t ≡ t = rw (lt-ltb k c w.1, less, lt-ltb k (c - 1) v.1) refl in
            (is ∙ sym (taken_trace-short (c - k) t (omega (arith, v.1, length-at at))), rw is at)
      ]
    ]

-- an operator makes of what stands at a position what is left of it there makes of it, and where it keeps the count of
-- elements that stands at the position after it
record IsPassedAt {L T : Type 0} (meaning : L → Meaning T) (op : Op L) (p : ℤ) (t : Trace T) : Type 0 where
  pub same : apply_at meaning op p t ≡ apply (stage_left meaning op (counted_off op - item_count p)) t
  pub at : keeps_count op ≡ true → IsAt T (position_after op p) (apply_at meaning op p t)

passed-take : {L T : Type 0} (meaning : L → Meaning T) (n p : ℤ) (t : Trace T) → 0 < item_count n → IsAt T p t → IsPassedAt meaning (Take n) p t
passed-take meaning n (pos k) t some at =
    let taken = at-taken_trace (item_count n) k t some at in
    record { same = taken.0; at = λ keeps. taken.1 }
passed-take {L} {T} meaning n (negsuc k) t some (not_reached e) =
    let c : ℕ = item_count n in
    let less : pos c -ℤ pos 1 ≡ pos (c - 1) = omega (arith, ints, some) in
    let short : 0 < c - 0 = omega (arith, some) in
    let is : taken_at (pos c) (negsuc k) (trace_of [] e) ≡ trace_of [] e = rw less refl in
    record { same = is ∙ sym (taken_trace-short (c - 0) (trace_of [] e) short); at = λ keeps. rw is (not_reached e) }

passed-skip : {L T : Type 0} (meaning : L → Meaning T) (n p : ℤ) (t : Trace T) → IsAt T p t → IsPassedAt meaning (Skip n) p t
passed-skip {L} {T} meaning n (pos k) t at =
    let c : ℕ = item_count n in
    elim (leb_tells c k) [
      | inl w ↦
          let is : skipped_at (pos c) (pos k) t ≡ t = rw (le-ltb k c w.1) refl in
          let none : c - k ≡ 0 = omega (arith, w.1) in
          let moved : pos k -ℤ pos c ≡ pos (k - c) = omega (arith, ints, w.1) in
          record { same = is ∙ ap (λ i. skipped_trace i t) (sym none); at = λ keeps. rw (is, moved) (at-moved (k - c) at) }
      | inr w ↦
          let is : skipped_at (pos c) (pos k) t ≡ trace_of [] t.ending = rw (lt-ltb k c w.1) refl in
          let all : drop (c - k) t.items ≡ [] = drop_all (c - k) t.items (omega (arith, w.1, length-at at)) in
          record {
            same = is ∙ ap (λ ys. trace_of ys t.ending) (sym all);
            at = λ keeps. rw is
                (at-below T (pos k -ℤ pos c) t.ending (omega (arith, ints, w.1)));
          }
    ]
passed-skip {L} {T} meaning n (negsuc k) t (not_reached e) =
    let c : ℕ = item_count n in
    record { same = ap (λ ys. trace_of ys e) (sym (drop-nil (c - 0))); at = λ keeps. at-below T (negsuc k -ℤ pos c) e (omega (arith, ints)) }

passed-at : {L T : Type 0} (meaning : L → Meaning T) (op : Op L) (p : ℤ) (t : Trace T) → can_apply Position op ≡ true → is_empty_take op ≡ false
    → IsAt T p t → IsPassedAt meaning op p t
passed-at meaning (Select f) p t keyed some at = record { same = refl; at = λ keeps. at-joined_pieces _ (λ k x. at-selected_piece k ((meaning f).map x)) at }
passed-at meaning (Take n) p t keyed some at = passed-take meaning n p t (grind (arith, nat_tests)) at
passed-at meaning (Skip n) p t keyed some at = passed-skip meaning n p t at
passed-at meaning (TakeWhile f) p t keyed some at = record { same = refl; at = λ keeps. at-joined_pieces _ (λ k x. at-taken_while k ((meaning f).test x) x) at }
passed-at meaning op p t keyed some at = record { same = refl; at = λ keeps. absurd (cc) }

-- ---- what is left of the operators after what stands at a position is what is left of them at the next

-- the number of items that stand before a position
item_count-parts : (p : ℤ) → item_count p ≡ up p - down p
item_count-parts (pos k) = omega arith
item_count-parts (negsuc k) = omega arith

item_count-less : (p : ℤ) (n : ℕ) → item_count (p -ℤ pos n) ≡ item_count p - n
item_count-less p n = omega (arith, ints, item_count-parts p, item_count-parts (p -ℤ pos n))

fewer-left : {T : Type 0} (c : ℕ) {p : ℤ} {t : Trace T} → IsAt T p t → t.ending ≡ None → (c - item_count p) - length t.items ≡ c - item_count (p +ℤ pos 1)
fewer-left c (not_reached {k = k} e) is_open = omega (arith, ints, item_count-parts (negsuc k +ℤ pos 1))
fewer-left c (one_item x) is_open = omega arith
fewer-left c _ is_open = absurd (cc)

after-at : {L T : Type 0} (meaning : L → Meaning T) (op : Op L) (p : ℤ) (t : Trace T) → can_apply Position op ≡ true → IsAt T p t → t.ending ≡ None
    → stage_after (stage_left meaning op (counted_off op - item_count p)) t.items ≡ stage_left meaning op (counted_off op - item_count (p +ℤ pos 1))
after-at meaning (Take n) p t keyed at is_open = ap taking (fewer-left (item_count n) at is_open)
after-at meaning (Skip n) p t keyed at is_open = ap skipping (fewer-left (item_count n) at is_open)
after-at meaning op p t keyed at is_open = cc

position_after-next : {L : Type 0} (op : Op L) (p : ℤ) → position_after op p +ℤ pos 1 ≡ position_after op (p +ℤ pos 1)
position_after-next (Skip n) p = omega (arith, ints)
position_after-next op p = refl

-- where positions aren't known no operator goes by them
keyed-anywhere : {L T : Type 0} (meaning : L → Meaning T) (ops : List (Op L)) (p q : ℤ) (t : Trace T) → is_by_key_from Key ops ≡ true
    → (fragment_at meaning ops p t ≡ seq (left_at meaning ops p) t) × (seq_after (left_at meaning ops p) t ≡ left_at meaning ops q)
keyed-anywhere meaning [] p q t keyed = (refl, refl)
keyed-anywhere meaning (Take n ∷ ops) p q t keyed = absurd (cc)
keyed-anywhere meaning (op ∷ ops) p q t keyed =
    let rest = keyed-anywhere meaning ops p q (apply (stage_of meaning op) t) (cc) in
    (cc, cc)

-- the fragment of what stands at a position is what is left of the operators there makes of it, and where that leaves
-- the run open, what is left of them then is what is left at the next
record IsKeyedAt {L T : Type 0} (meaning : L → Meaning T) (ops : List (Op L)) (p : ℤ) (t : Trace T) : Type 0 where
  pub same : fragment_at meaning ops p t ≡ seq (left_at meaning ops p) t
  pub next : (seq (left_at meaning ops p) t).ending ≡ None → seq_after (left_at meaning ops p) t ≡ left_at meaning ops (p +ℤ pos 1)

keyed-at : {L T : Type 0} (meaning : L → Meaning T) (ops : List (Op L)) (p : ℤ) (t : Trace T) → is_by_key ops ≡ true
    → list_any is_empty_take ops ≡ false → IsAt T p t → IsKeyedAt meaning ops p t
keyed-at meaning [] p t keyed some at = record { same = refl; next = λ is_open. refl }
keyed-at {L} {T} meaning (op ∷ ops) p t keyed some at =
    let both = and_parts (can_apply Position op) (is_by_key_from (known_after Position op) ops) keyed in
    let none = or_parts _ _ some in
    let q : ℤ = position_after op p in
    let u : Trace T = apply_at meaning op p t in
    let left : List (Stage T) = left_at meaning ops q in
    let passed = passed-at meaning op p t both.0 none.0 at in
    let others : IsKeyedAt meaning ops q u =
    elim (keeps_count op) as (λ v. v ≡ keeps_count op → is_by_key_from (cond v Position Key) ops ≡ true → IsKeyedAt meaning ops q u) [
      | true ↦ λ keeps keyed. keyed-at meaning ops q u keyed none.1 (passed.at (sym keeps))
      | false ↦ λ keeps keyed. let any = keyed-anywhere meaning ops q (q +ℤ pos 1) u keyed in record { same = any.0; next = λ is_open. any.1 }
    ] refl both.1 in
    record {
      same = others.same ∙ ap (seq left) passed.same;
      next = λ is_open.
          let first = after-at meaning op p t both.0 at (open-from_seq (left_at meaning (op ∷ ops) p) t is_open) in
          let rest =
          ap (seq_after left) (sym passed.same) ∙ others.next (ap (λ v. (seq left v).ending) passed.same ∙ is_open)
          ∙ ap (left_at meaning ops) (position_after-next op p) in
          cc;
    }

-- the element of a key gives its fragment
pub fragment_of-keyed : {L T : Type 0} (meaning : L → Meaning T) (ops : List (Op L)) (key : ℕ) (x : T) → is_by_key ops ≡ true
    → list_any is_empty_take ops ≡ false
    → fragment_of meaning ops key x ≡ seq (left_at meaning ops (pos key)) (open_trace (x ∷ []))
fragment_of-keyed meaning ops key x keyed some = (keyed-at meaning ops (pos key) (open_trace (x ∷ [])) keyed some (one_item x)).same

-- and leaves after it what is left at the next key
pub left_at-next : {L T : Type 0} (meaning : L → Meaning T) (ops : List (Op L)) (key : ℕ) (x : T) → is_by_key ops ≡ true → list_any is_empty_take ops ≡ false
    → (seq (left_at meaning ops (pos key)) (open_trace (x ∷ []))).ending ≡ None
    → seq_after (left_at meaning ops (pos key)) (open_trace (x ∷ [])) ≡ left_at meaning ops (pos (key + 1))
left_at-next meaning ops key x keyed some is_open = (keyed-at meaning ops (pos key) (open_trace (x ∷ [])) keyed some (one_item x)).next is_open

item_count-after : {L : Type 0} (op : Op L) (p : ℤ) → passed_on op (item_count p) ≡ item_count (position_after op p)
item_count-after (Skip n) p = sym (item_count-less p (item_count n))
item_count-after op p = refl

-- what is left once so many elements have reached the operators is what is left at the position of the next
pub stages_at-position : {L T : Type 0} (meaning : L → Meaning T) (ops : List (Op L)) (p : ℤ) → stages_at meaning ops (item_count p) ≡ left_at meaning ops p
stages_at-position meaning [] p = refl
stages_at-position meaning (op ∷ ops) p =
    ap (λ rest. stage_left meaning op (counted_off op - item_count p) ∷ rest)
    (ap (stages_at meaning ops) (item_count-after op p) ∙ stages_at-position meaning ops (position_after op p))

passed_on-none : {L : Type 0} (op : Op L) (n : ℕ) → n ≡ 0 → passed_on op n ≡ 0
passed_on-none (Skip k) n none = omega (arith, none)
passed_on-none op n none = none

-- at the start all of the operators is left
pub stages_at-start : {L T : Type 0} (meaning : L → Meaning T) (ops : List (Op L)) (n : ℕ) → n ≡ 0 → stages_at meaning ops n ≡ stages_of meaning ops
stages_at-start meaning [] n none = refl
stages_at-start meaning (op ∷ ops) n none =
    let all : counted_off op - n ≡ counted_off op = omega (arith, none) in
    let first : stage_left meaning op (counted_off op - n) ≡ stage_of meaning op = ap (stage_left meaning op) all ∙ stage_left-counted_off meaning op in
    let others = stages_at-start meaning ops (passed_on op n) (passed_on-none op n none) in
    cc

pub left_at-start : {L T : Type 0} (meaning : L → Meaning T) (ops : List (Op L)) → left_at meaning ops (pos 0) ≡ stages_of meaning ops
left_at-start meaning ops = sym (stages_at-position meaning ops (pos 0)) ∙ stages_at-start meaning ops 0 refl

-- which a pipeline does that they have reached
pub stages-reached : {L T : Type 0} (meaning : L → Meaning T) (ops : List (Op L)) (key : ℕ) (p : PipelineView L) → IsReached meaning ops key p
    → stages meaning p ≡ left_at meaning ops (pos key)
stages-reached meaning ops key p reached = reached.left ∙ stages_at-position meaning ops (pos key)

pub stages-begun : {L T : Type 0} (meaning : L → Meaning T) (ops : List (Op L)) (p : PipelineView L) → IsReached meaning ops 0 p
    → stages meaning p ≡ stages_of meaning ops
stages-begun meaning ops p reached = reached.left ∙ stages_at-start meaning ops 0 refl
