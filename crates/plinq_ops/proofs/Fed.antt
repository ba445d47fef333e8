-- One operator's part in feeding an item, by what it gives for the item.
use Rattle.std.specs.Prelude.{◌≡◌, List, [], ◌∷◌, ◌++◌, true, false, Option, Some, None, is_some, refl}
use Rattle.std.proofs.Common.{sym, ◌∙◌, ap, append-nil, append_assoc}
use Rattle.plinq_source.specs.declared.ending.Ending.{Ending}
use Rattle.plinq_source.specs.Trace.{Trace, open_trace, continued_by, followed_by}
use Rattle.plinq_source.proofs.Followed.{trace_of, followed_by-ended}
use Rattle.plinq_ops.specs.Stage.{Stage, apply, seq, stage_after, seq_after, some_takes_none}
use Rattle.plinq_ops.specs.Feeding.{IsFed}
use Rattle.plinq_ops.proofs.Stages.{seq-followed_by}
use Rattle.plinq_ops.proofs.Open.{seq-nothing, seq_after-nothing, seq_after-followed_by, some-where_open, seq_after-open}

-- the operators but the first see this trace in the place of the items and their ending
pub fed-through : {T : Type 0} (s s' : Stage T) (xs : List T) (told : Option Ending) (t : Trace T) (ss ss' : List (Stage T)) (before after : List T)
    (e : Option Ending)
    → apply s (trace_of xs told) ≡ t → stage_after s xs ≡ s' → IsFed ss t before after ss' e
    → IsFed (s ∷ ss) (trace_of xs told) before after (s' ∷ ss') e
fed-through s s' xs told t ss ss' before after e is rest fed =
    record {
      items = fed.items ∙ ap (λ u. before ++ (seq ss u).items) (sym is);
      told = fed.told ∙ ap (λ u. (seq ss u).ending) (sym is);
      left = λ goes_on.
          let others : ss' ≡ seq_after ss (apply s (trace_of xs told)) = fed.left goes_on ∙ ap (seq_after ss) (sym is) in
          cc;
    }

-- nothing was fed yet
pub fed-none : {T : Type 0} (ss : List (Stage T)) (out : List T) → some_takes_none ss ≡ false → IsFed ss (open_trace []) out out ss None
fed-none ss out undecided =
    record {
      items = sym (append-nil out) ∙ ap (λ t. out ++ t.items) (sym (seq-nothing ss None undecided));
      told = ap (λ t. t.ending) (sym (seq-nothing ss None undecided));
      left = λ e. sym (seq_after-nothing ss undecided);
    }

-- what is fed after a trace that left the run open
pub fed-followed_by : {T : Type 0} (ss ss' ss'' : List (Stage T)) (a b : Trace T) (before between after : List T) (e : Option Ending)
    → IsFed ss a before between ss' None → IsFed ss' b between after ss'' e → IsFed ss (followed_by a b) before after ss'' e
fed-followed_by {T} ss ss' ss'' a b before between after e first second =
    let is_open : (seq ss a).ending ≡ None = sym first.told in
    let parts : (xs : List T) (o : Option Ending) (t : Trace T) → o ≡ None → continued_by xs o t ≡ trace_of (xs ++ t.items) t.ending =
    λ xs o t. elim o as (λ v. v ≡ None → continued_by xs v t ≡ trace_of (xs ++ t.items) t.ending) [ None ↦ λ none. refl | Some f ↦ λ bad. absurd (cc) ] in
    let through : seq ss (followed_by a b) ≡ trace_of ((seq ss a).items ++ (seq ss' b).items) (seq ss' b).ending =
    seq-followed_by ss a b ∙ ap (λ left. followed_by (seq ss a) (seq left b)) (sym (first.left refl)) ∙ parts _ _ _ is_open in
    record {
      items = second.items ∙ ap (λ zs. zs ++ (seq ss' b).items) first.items ∙ append_assoc before _ _ ∙ ap (λ t. before ++ t.items) (sym through);
      told = second.told ∙ ap (λ t. t.ending) (sym through);
      left = λ goes_on. second.left goes_on ∙ ap (λ left. seq_after left b) (first.left refl) ∙ sym (seq_after-followed_by ss a b is_open);
    }

-- operators that left the run open have no Take of none
pub undecided-left : {T : Type 0} (ss ss' : List (Stage T)) (a : Trace T) (before after : List T) → IsFed ss a before after ss' None
    → some_takes_none ss' ≡ false
undecided-left ss ss' a before after fed =
    ap some_takes_none (fed.left refl) ∙ some-where_open (seq_after ss a) (seq_after-open ss a (sym fed.told))

-- a run that has ended stays as it is, whatever comes after
pub fed-ended_before : {T : Type 0} (ss ss' ss'' : List (Stage T)) (a b : Trace T) (before after : List T) (e : Option Ending) → is_some e ≡ true
    → IsFed ss a before after ss' e → IsFed ss (followed_by a b) before after ss'' e
fed-ended_before {T} ss ss' ss'' a b before after None ends fed = absurd (let bad : false ≡ true = ends in cc)
fed-ended_before {T} ss ss' ss'' a b before after (Some e) ends fed =
    let same : seq ss (followed_by a b) ≡ seq ss a = seq-followed_by ss a b ∙ followed_by-ended (seq ss a) (seq (seq_after ss a) b) e (sym fed.told) in
    record {
      items = fed.items ∙ ap (λ t. before ++ t.items) (sym same);
      told = fed.told ∙ ap (λ t. t.ending) (sym same);
      left = λ bad. absurd (cc);
    }

pub none-from_is_some : {A : Type 0} (o : Option A) → is_some o ≡ false → o ≡ None
none-from_is_some None none = refl
none-from_is_some (Some x) none = absurd (let bad : true ≡ false = none in cc)
