-- Open answers: an answer stays open only while the trace is, and then what is left of the operators goes on from there.
use Rattle.std.specs.Prelude.{◌≡◌, List, [], ◌∷◌, ◌++◌, true, false, ◌||◌, Option, Some, None, is_some, ◌⊎◌, refl}
use Rattle.std.specs.Option.{option_or}
use Rattle.std.proofs.Common.{sym, ◌∙◌, ap, inl, inr, append-nil}
use Rattle.plinq_source.specs.declared.ending.Ending.{Ending}
use Rattle.plinq_source.specs.declared.ending.Ending.TheVariants.{End}
use Rattle.plinq_source.specs.Trace.{Trace, open_trace, ended_trace, continued_by, followed_by}
use Rattle.plinq_source.proofs.Followed.{trace_of, followed_by-ended, followed_by-open_nil}
use Rattle.plinq_ops.specs.Stage.{Stage, apply, seq, stage_after, seq_after, takes_none, some_takes_none}
use Rattle.plinq_ops.proofs.Stages.{is_some-apply, apply-followed_by, after-after, after-nothing, apply-nothing, apply-takes_none, apply-ended_nil}
use Rattle.plinq_ops.proofs.Stages.{seq-followed_by}

pub is_some-seq : {T : Type 0} (ss : List (Stage T)) (t : Trace T) → is_some t.ending ≡ true → is_some (seq ss t).ending ≡ true
is_some-seq [] t ends = ends
is_some-seq (s ∷ ss) t ends = is_some-seq ss (apply s t) (is_some-apply s t ends)

-- a trace is open or has an ending
pub none-or_ending : (e : Option Ending) → (e ≡ None) ⊎ ((f : Ending) × (e ≡ Some f))
none-or_ending None = inl refl
none-or_ending (Some e) = inr (e, refl)

not_none : {A : Type 0} (e : Option Ending) → is_some e ≡ true → e ≡ None → A
not_none None is_ended is_open = absurd (let bad : false ≡ true = is_ended in cc)
not_none (Some e) is_ended is_open = absurd (cc)

-- an open answer comes from an open trace
pub open-from_seq : {T : Type 0} (ss : List (Stage T)) (t : Trace T) → (seq ss t).ending ≡ None → t.ending ≡ None
open-from_seq ss t is_open =
    elim (none-or_ending t.ending) [
      | inl e ↦ e
      | inr ends ↦ not_none (seq ss t).ending (is_some-seq ss t (ap is_some ends.1)) is_open
    ]

pub open-from_continued : {T : Type 0} (xs : List T) (e : Option Ending) (b : Trace T) → (continued_by xs e b).ending ≡ None → e ≡ None
open-from_continued xs None b is_open = refl
open-from_continued xs (Some e) b is_open = is_open

pub open_after : {T : Type 0} (xs : List T) (e : Option Ending) (b : Trace T) → e ≡ None → (continued_by xs e b).ending ≡ None → b.ending ≡ None
open_after xs None b first both = both
open_after xs (Some e) b first both = absurd (cc)

-- where more items leave the answer open, fewer do
pub seq-open_before : {T : Type 0} (ss : List (Stage T)) (a b : Trace T) → (seq ss (followed_by a b)).ending ≡ None → (seq ss a).ending ≡ None
seq-open_before {T} ss a b is_open =
    let t : Trace T = seq (seq_after ss a) b in
    open-from_continued (seq ss a).items (seq ss a).ending t (sym (ap (λ u. u.ending) (seq-followed_by ss a b)) ∙ is_open)

pub items-continued_by : {T : Type 0} (xs : List T) (e : Option Ending) (b : Trace T) → e ≡ None → (continued_by xs e b).items ≡ xs ++ b.items
items-continued_by xs None b is_open = refl
items-continued_by xs (Some e) b is_open = absurd (cc)

-- what is left after two traces is what is left of what was left after the first
pub seq_after-followed_by : {T : Type 0} (ss : List (Stage T)) (a b : Trace T) → (seq ss a).ending ≡ None
    → seq_after ss (followed_by a b) ≡ seq_after (seq_after ss a) b
seq_after-followed_by [] a b is_open = refl
seq_after-followed_by (s ∷ ss) a b is_open =
    let first_open : a.ending ≡ None = open-from_seq (s ∷ ss) a is_open in
    let first : stage_after s (followed_by a b).items ≡ stage_after (stage_after s a.items) b.items =
    ap (stage_after s) (items-continued_by a.items a.ending b first_open) ∙ sym (after-after s a.items b.items) in
    let others : seq_after ss (apply s (followed_by a b)) ≡ seq_after (seq_after ss (apply s a)) (apply (stage_after s a.items) b) =
    ap (seq_after ss) (apply-followed_by s a b) ∙ seq_after-followed_by ss (apply s a) (apply (stage_after s a.items) b) is_open in
    cc

-- nothing but the end stays that
pub seq-ended_nil : {T : Type 0} (ss : List (Stage T)) → seq ss (ended_trace [] End) ≡ ended_trace [] End
seq-ended_nil [] = refl
seq-ended_nil (s ∷ ss) = ap (seq ss) (apply-ended_nil s) ∙ seq-ended_nil ss

-- where no operator takes none, nothing goes through the operators as it is
pub seq-nothing : {T : Type 0} (ss : List (Stage T)) (e : Option Ending) → some_takes_none ss ≡ false → seq ss (trace_of [] e) ≡ trace_of [] e
seq-nothing [] e some = refl
seq-nothing (s ∷ ss) e some =
    elim (takes_none s) as (λ v. v ≡ takes_none s → v || some_takes_none ss ≡ false → seq ss (apply s (trace_of [] e)) ≡ trace_of [] e) [
      | true ↦ λ is bad. absurd (cc)
      | false ↦ λ is rest. ap (seq ss) (apply-nothing s e (sym is)) ∙ seq-nothing ss e rest
    ] refl some

-- a Take of none decides the answer before any item
pub seq-takes_none : {T : Type 0} (ss : List (Stage T)) → some_takes_none ss ≡ true → seq ss (open_trace []) ≡ ended_trace [] End
seq-takes_none [] none = absurd (cc)
seq-takes_none (s ∷ ss) none =
    elim (takes_none s) as (λ v. takes_none s ≡ v → v || some_takes_none ss ≡ true → seq ss (apply s (open_trace [])) ≡ ended_trace [] End) [
      | true ↦ λ is none. ap (seq ss) (apply-takes_none s is) ∙ seq-ended_nil ss
      | false ↦ λ is none. ap (seq ss) (apply-nothing s None is) ∙ seq-takes_none ss none
    ] refl none

-- what is left of the operators after nothing is all of them
pub seq_after-nothing : {T : Type 0} (ss : List (Stage T)) → some_takes_none ss ≡ false → seq_after ss (open_trace []) ≡ ss
seq_after-nothing [] some = refl
seq_after-nothing (s ∷ ss) some =
    elim (takes_none s) as (λ v. v ≡ takes_none s → v || some_takes_none ss ≡ false → stage_after s [] ∷ seq_after ss (apply s (open_trace [])) ≡ s ∷ ss) [
      | true ↦ λ is bad. absurd (cc)
      | false ↦ λ is rest.
          let same : stage_after s [] ≡ s = after-nothing s in
          let others : seq_after ss (apply s (open_trace [])) ≡ ss =
          ap (seq_after ss) (apply-nothing s None (sym is)) ∙ seq_after-nothing ss rest in
          cc
    ] refl some

-- an answer that is open has no Take of none before it
pub some-where_open : {T : Type 0} (ss : List (Stage T)) → (seq ss (open_trace [])).ending ≡ None → some_takes_none ss ≡ false
some-where_open ss is_open =
    elim (some_takes_none ss) as (λ v. v ≡ some_takes_none ss → v ≡ false) [
      | true ↦ λ none. let bad : Some End ≡ None = sym (ap (λ t. t.ending) (seq-takes_none ss (sym none))) ∙ is_open in cc
      | false ↦ λ some. refl
    ] refl

-- what is left of operators whose answer is open leaves nothing open too
pub seq_after-open : {T : Type 0} (ss : List (Stage T)) (a : Trace T) → (seq ss a).ending ≡ None → (seq (seq_after ss a) (open_trace [])).ending ≡ None
seq_after-open {T} ss a is_open =
    let left : List (Stage T) = seq_after ss a in
    let again : followed_by (seq ss a) (seq left (open_trace [])) ≡ seq ss a =
    sym (seq-followed_by ss a (open_trace [])) ∙ ap (seq ss) (followed_by-open_nil a) in
    open_after (seq ss a).items (seq ss a).ending (seq left (open_trace [])) is_open (ap (λ t. t.ending) again ∙ is_open)

-- where the answer is open so far, it ends as the trace does
pub seq-ending_of_open : {T : Type 0} (ss : List (Stage T)) (a : Trace T) (xs : List T) (e : Ending) → seq ss a ≡ open_trace xs
    → seq ss (followed_by a (ended_trace [] e)) ≡ ended_trace xs e
seq-ending_of_open {T} ss a xs e is =
    let left : List (Stage T) = seq_after ss a in
    let left_open : (seq left (open_trace [])).ending ≡ None = seq_after-open ss a (ap (λ t. t.ending) is) in
    seq-followed_by ss a (ended_trace [] e)
    ∙ ap (λ t. followed_by t (seq left (ended_trace [] e))) is
    ∙ ap (followed_by (open_trace xs)) (seq-nothing left (Some e) (some-where_open left left_open))
    ∙ ap (λ ys. ended_trace ys e) (append-nil xs)

or_none : {A : Type 0} (o : Option A) → option_or o None ≡ o
or_none None = refl
or_none (Some x) = refl

apply-told_some : {T : Type 0} (s : Stage T) (xs : List T) (f : Ending) (e : Option Ending) → (apply s (open_trace xs)).ending ≡ e
    → apply s (ended_trace (xs ++ []) f) ≡ trace_of (apply s (open_trace xs)).items (option_or e (Some f))
apply-told_some s xs f None is =
    seq-ending_of_open (s ∷ []) (open_trace xs) (apply s (open_trace xs)).items f (ap (trace_of (apply s (open_trace xs)).items) is)
apply-told_some s xs f (Some g) is =
    apply-followed_by s (open_trace xs) (ended_trace [] f)
    ∙ followed_by-ended (apply s (open_trace xs)) (apply (stage_after s xs) (ended_trace [] f)) g is
    ∙ ap (trace_of (apply s (open_trace xs)).items) is

-- an operator that waits for no end: it passes the items, and where it hasn't ended the run, the ending
pub apply-told : {T : Type 0} (s : Stage T) (xs : List T) (told : Option Ending)
    → apply s (trace_of xs told) ≡ trace_of (apply s (open_trace xs)).items (option_or (apply s (open_trace xs)).ending told)
apply-told s xs None = ap (trace_of (apply s (open_trace xs)).items) (sym (or_none (apply s (open_trace xs)).ending))
apply-told s xs (Some f) = ap (λ zs. apply s (ended_trace zs f)) (sym (append-nil xs)) ∙ apply-told_some s xs f (apply s (open_trace xs)).ending refl
