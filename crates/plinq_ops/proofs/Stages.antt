-- Laws of the operators on traces: a trace that follows another goes through what is left of the operators.
use Rattle.std.specs.Prelude.{◌≡◌, ℕ, zero, suc, ◌-◌, ◌<◌, ◌≤◌, List, [], ◌∷◌, ◌++◌, length, take, drop, nat_le, true, false, cond, Option, Some}
use Rattle.std.specs.Prelude.{None, is_some, refl}
use Rattle.std.proofs.Common.{sym, ◌∙◌, ap, inl, inr, arith, length-append}
use Rattle.std.proofs.lemmas.List.{take-append-le}
use Rattle.std.proofs.lemmas.Bool.{le-leb, lt-leb}
use Rattle.std.proofs.lemmas.Bool.Decides.{leb_tells}
use Rattle.std.proofs.Math.Nat.{sub-zero, zero-sub, suc-sub-suc}
use Rattle.std.proofs.Math.Seq.{drop-nil}
use Rattle.plinq_source.specs.declared.ending.Ending.{Ending}
use Rattle.plinq_source.specs.declared.ending.Ending.TheVariants.{End}
use Rattle.plinq_source.specs.Trace.{Trace, open_trace, ended_trace, continued_by, followed_by}
use Rattle.plinq_source.proofs.Followed.{trace_of, followed_by-followed_by}
use Rattle.plinq_ops.specs.Stage.{Stage, pieces, taking, skipping, skipping_while, unchanged, joined_pieces, taken_trace, apply, seq, stage_after}
use Rattle.plinq_ops.specs.Stage.{seq_after, takes_none}
use Rattle.plinq_ops.proofs.SkippingWhile.{skipped_while-append, skipped_while-ended, is_some-skipped_while, after-skipping_while}

-- the pieces of a list after another
pub joined_pieces-append : {T : Type 0} (piece : T → Trace T) (xs ys : List T) (e : Option Ending)
    → joined_pieces piece (xs ++ ys) e ≡ followed_by (joined_pieces piece xs None) (joined_pieces piece ys e)
joined_pieces-append piece [] ys e = refl
joined_pieces-append piece (x ∷ xs) ys e =
    ap (followed_by (piece x)) (joined_pieces-append piece xs ys e)
    ∙ sym (followed_by-followed_by (piece x) (joined_pieces piece xs None) (joined_pieces piece ys e))

-- nothing follows the pieces of a trace that has ended
pub followed_by-joined_pieces : {T : Type 0} (piece : T → Trace T) (xs : List T) (e : Ending) (b : Trace T)
    → followed_by (joined_pieces piece xs (Some e)) b ≡ joined_pieces piece xs (Some e)
followed_by-joined_pieces piece [] e b = refl
followed_by-joined_pieces piece (x ∷ xs) e b =
    followed_by-followed_by (piece x) (joined_pieces piece xs (Some e)) b ∙ ap (followed_by (piece x)) (followed_by-joined_pieces piece xs e b)

pub drop-append : {T : Type 0} (n : ℕ) (xs ys : List T) → drop n (xs ++ ys) ≡ drop n xs ++ drop (n - length xs) ys
drop-append n [] ys = rw (drop-nil n, sub-zero n)
drop-append zero (x ∷ xs) ys = rw (zero-sub (suc (length xs)))
drop-append (suc n) (x ∷ xs) ys = rw (suc-sub-suc n (length xs)) (drop-append n xs ys)

pub take-append_past : {T : Type 0} (n : ℕ) (xs ys : List T) → length xs ≤ n → take n (xs ++ ys) ≡ xs ++ take (n - length xs) ys
take-append_past n [] ys past = rw (sub-zero n)
take-append_past zero (x ∷ xs) ys past = absurd (omega arith)
take-append_past (suc n) (x ∷ xs) ys past = rw (suc-sub-suc n (length xs)) (ap (λ zs. x ∷ zs) (take-append_past n xs ys (omega arith)))

-- a Take that has its items
pub taken_trace-enough : {T : Type 0} (n : ℕ) (t : Trace T) → n ≤ length t.items → taken_trace n t ≡ ended_trace (take n t.items) End
taken_trace-enough n t enough = rw (le-leb n (length t.items) enough)

-- a Take that lacks items
pub taken_trace-short : {T : Type 0} (n : ℕ) (t : Trace T) → length t.items < n → taken_trace n t ≡ t
taken_trace-short n t short = rw (lt-leb n (length t.items) short)

-- a Take whose items begin before the trace and end in it, or not at all
taken_trace-past : {T : Type 0} (n : ℕ) (xs : List T) (b : Trace T) → length xs < n
    → taken_trace n (followed_by (open_trace xs) b) ≡ followed_by (open_trace xs) (taken_trace (n - length xs) b)
taken_trace-past n xs b past =
    elim (leb_tells (n - length xs) (length b.items)) [
      | inl w ↦
          let enough : n ≤ length (xs ++ b.items) = omega (arith, past, w.1, length-append xs b.items) in
          taken_trace-enough n (followed_by (open_trace xs) b) enough
          ∙ ap (λ zs. ended_trace zs End) (take-append_past n xs b.items (omega (arith, past)))
          ∙ sym (ap (followed_by (open_trace xs)) (taken_trace-enough (n - length xs) b w.1))
      | inr w ↦
          let short : length (xs ++ b.items) < n = omega (arith, past, w.1, length-append xs b.items) in
          taken_trace-short n (followed_by (open_trace xs) b) short ∙ sym (ap (followed_by (open_trace xs)) (taken_trace-short (n - length xs) b w.1))
    ]

taken_trace-append : {T : Type 0} (n : ℕ) (xs : List T) (b : Trace T)
    → taken_trace n (followed_by (open_trace xs) b) ≡ followed_by (taken_trace n (open_trace xs)) (taken_trace (n - length xs) b)
taken_trace-append n xs b =
    elim (leb_tells n (length xs)) [
      | inl w ↦
          let enough : n ≤ length (xs ++ b.items) = omega (arith, w.1, length-append xs b.items) in
          taken_trace-enough n (followed_by (open_trace xs) b) enough
          ∙ ap (λ zs. ended_trace zs End) (take-append-le n xs b.items w.1)
          ∙ sym (ap (λ t. followed_by t (taken_trace (n - length xs) b)) (taken_trace-enough n (open_trace xs) w.1))
      | inr w ↦
          taken_trace-past n xs b w.1 ∙ sym (ap (λ t. followed_by t (taken_trace (n - length xs) b)) (taken_trace-short n (open_trace xs) w.1))
    ]

taken_trace-ended_trace : {T : Type 0} (n : ℕ) (xs : List T) (e : Ending) (b : Trace T)
    → taken_trace n (ended_trace xs e) ≡ followed_by (taken_trace n (ended_trace xs e)) b
taken_trace-ended_trace n xs e b =
    elim (nat_le n (length xs)) as (λ v. cond v (ended_trace (take n xs) End) (ended_trace xs e)
    ≡ followed_by (cond v (ended_trace (take n xs) End) (ended_trace xs e)) b) [ true ↦ refl | false ↦ refl ]

-- one operator on a trace after an open or an ended one
pub apply-continued_by : {T : Type 0} (s : Stage T) (xs : List T) (e : Option Ending) (b : Trace T)
    → apply s (continued_by xs e b) ≡ followed_by (apply s (trace_of xs e)) (apply (stage_after s xs) b)
apply-continued_by (pieces piece) xs None b = joined_pieces-append piece xs b.items b.ending
apply-continued_by (pieces piece) xs (Some e) b = sym (followed_by-joined_pieces piece xs e (joined_pieces piece b.items b.ending))
apply-continued_by (taking n) xs None b = taken_trace-append n xs b
apply-continued_by (taking n) xs (Some e) b = taken_trace-ended_trace n xs e (taken_trace (n - length xs) b)
apply-continued_by (skipping n) xs None b = ap (λ zs. trace_of zs b.ending) (drop-append n xs b.items)
apply-continued_by (skipping n) xs (Some e) b = refl
apply-continued_by (skipping_while test) xs None b = skipped_while-append test xs b
apply-continued_by (skipping_while test) xs (Some e) b = skipped_while-ended test xs e (apply (stage_after (skipping_while test) xs) b)
apply-continued_by unchanged xs None b = refl
apply-continued_by unchanged xs (Some e) b = refl

pub apply-followed_by : {T : Type 0} (s : Stage T) (a b : Trace T)
    → apply s (followed_by a b) ≡ followed_by (apply s a) (apply (stage_after s a.items) b)
apply-followed_by s a b = apply-continued_by s a.items a.ending b

-- what follows decides whether there is an ending, unless there is one already
pub is_some-continued_by : {T : Type 0} (xs : List T) (e : Option Ending) (b : Trace T) → is_some b.ending ≡ true → is_some (continued_by xs e b).ending ≡ true
is_some-continued_by xs None b ends = ends
is_some-continued_by xs (Some e) b ends = refl

pub is_some-joined_pieces : {T : Type 0} (piece : T → Trace T) (xs : List T) (e : Option Ending) → is_some e ≡ true
    → is_some (joined_pieces piece xs e).ending ≡ true
is_some-joined_pieces piece [] e ends = ends
is_some-joined_pieces piece (x ∷ xs) e ends =
    is_some-continued_by (piece x).items (piece x).ending (joined_pieces piece xs e) (is_some-joined_pieces piece xs e ends)

-- an operator leaves a trace that has ended with an ending
pub is_some-apply : {T : Type 0} (s : Stage T) (t : Trace T) → is_some t.ending ≡ true → is_some (apply s t).ending ≡ true
is_some-apply (pieces piece) t ends = is_some-joined_pieces piece t.items t.ending ends
is_some-apply (taking n) t ends =
    elim (nat_le n (length t.items)) as (λ v. is_some (cond v (ended_trace (take n t.items) End) t).ending ≡ true) [ true ↦ refl | false ↦ ends ]
is_some-apply (skipping n) t ends = ends
is_some-apply (skipping_while test) t ends = is_some-skipped_while test t.items t.ending ends
is_some-apply unchanged t ends = ends

less-less : {T : Type 0} (k : ℕ) (xs ys : List T) → (k - length xs) - length ys ≡ k - length (xs ++ ys)
less-less k xs ys = omega (arith, length-append xs ys)

pub after-after : {T : Type 0} (s : Stage T) (xs ys : List T) → stage_after (stage_after s xs) ys ≡ stage_after s (xs ++ ys)
after-after (pieces piece) xs ys = refl
after-after (taking k) xs ys = ap taking (less-less k xs ys)
after-after (skipping k) xs ys = ap skipping (less-less k xs ys)
after-after (skipping_while test) xs ys = after-skipping_while test xs ys
after-after unchanged xs ys = refl

pub after-nothing : {T : Type 0} (s : Stage T) → stage_after s [] ≡ s
after-nothing (pieces piece) = refl
after-nothing (taking k) = ap taking (sub-zero k)
after-nothing (skipping k) = ap skipping (sub-zero k)
after-nothing (skipping_while test) = refl
after-nothing unchanged = refl

pub apply-nothing : {T : Type 0} (s : Stage T) (e : Option Ending) → takes_none s ≡ false → apply s (trace_of [] e) ≡ trace_of [] e
apply-nothing (pieces piece) e some = refl
apply-nothing (taking zero) e some = absurd (cc)
apply-nothing (taking (suc n)) e some = taken_trace-short (suc n) (trace_of [] e) (omega arith)
apply-nothing (skipping n) e some = ap (λ zs. trace_of zs e) (drop-nil n)
apply-nothing (skipping_while test) e some = refl
apply-nothing unchanged e some = refl

pub apply-ended_nil : {T : Type 0} (s : Stage T) → apply s (ended_trace [] End) ≡ ended_trace [] End
apply-ended_nil (pieces piece) = refl
apply-ended_nil (taking zero) = refl
apply-ended_nil (taking (suc n)) = taken_trace-short (suc n) (ended_trace [] End) (omega arith)
apply-ended_nil (skipping n) = ap (λ zs. ended_trace zs End) (drop-nil n)
apply-ended_nil (skipping_while test) = refl
apply-ended_nil unchanged = refl

-- a Take of none ends it before any item
pub apply-takes_none : {T : Type 0} (s : Stage T) → takes_none s ≡ true → apply s (open_trace []) ≡ ended_trace [] End
apply-takes_none (pieces piece) none = absurd (let bad : false ≡ true = none in cc)
apply-takes_none (taking zero) none = refl
apply-takes_none (taking (suc n)) none = absurd (let bad : false ≡ true = none in cc)
apply-takes_none (skipping n) none = absurd (let bad : false ≡ true = none in cc)
apply-takes_none (skipping_while test) none = absurd (let bad : false ≡ true = none in cc)
apply-takes_none unchanged none = absurd (let bad : false ≡ true = none in cc)

-- the operators on a trace that follows another
pub seq-followed_by : {T : Type 0} (ss : List (Stage T)) (a b : Trace T)
    → seq ss (followed_by a b) ≡ followed_by (seq ss a) (seq (seq_after ss a) b)
seq-followed_by [] a b = refl
seq-followed_by (s ∷ ss) a b =
    ap (seq ss) (apply-followed_by s a b) ∙ seq-followed_by ss (apply s a) (apply (stage_after s a.items) b)
