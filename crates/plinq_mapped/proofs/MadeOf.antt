-- A run that was given what was made of parts delivers what is made of an answer.
use Rattle.std.specs.Prelude.{◌≡◌, ℕ, List, [], ◌∷◌, ◌++◌, Bool, true, Option, Some, None, Result, Ok, Err, refl}
use Rattle.std.specs.List.{fold}
use Rattle.std.proofs.Common.{sym, ◌∙◌, ap, subst, append-nil}
use Rattle.plinq_source.specs.declared.ending.Ending.{Ending}
use Rattle.plinq_source.specs.Trace.{Trace, open_trace, followed_by}
use Rattle.plinq_source.proofs.Followed.{trace_of, followed_by-followed_by}
use Rattle.plinq_lambda.specs.Meaning.{Meaning}
use Rattle.plinq_groups.specs.Mapping.{mapping, mapped_items, both_made, fold_of-mapping}
use Rattle.plinq_ops.specs.declared.merge_option.MergeOption.{MergeOption}
use Rattle.plinq_ops.specs.declared.op.Op.{Op}
use Rattle.plinq_ops.specs.Answer.{MayAnswer}
use Rattle.plinq_ops.specs.Batches.{batch_size, batches}
use Rattle.plinq_ops.specs.Sequential.{answer_of}
use Rattle.plinq_merge.specs.declared.delivery_fault.DeliveryFault.{DeliveryFault}
use Rattle.plinq_merge.specs.declared.delivery_fault.DeliveryFault.TheVariants.{Memory, Sink}
use Rattle.plinq_run.specs.declared.run_fault.RunFault.{RunFault}
use Rattle.plinq_run.specs.Parting.{Breaks, IsFolded, WasGiven, GivesSome}
use Rattle.plinq_run.specs.Runs.{Cause, cause_of, BreaksFor, Runs}
use Rattle.plinq_mapped.specs.declared.deliver_made.DeliverMade.{DeliverMade}
use Rattle.plinq_mapped.specs.Making.{parts_joined, Gives, MadeBy}
use Rattle.plinq_mapped.specs.declared.keep_made.KeepMade.{KeepMade}
use Rattle.plinq_mapped.specs.declared.keep_made.Kept.{Kept}
use Rattle.plinq_mapped.specs.inner.Keeping.{KeepsBy}
use Rattle.plinq_mapped.specs.Mapped.{trace_at, made_of, RunsMadeOf, IsMadeOf, IsMadeOfSome}

one-joined : {B : Type 0} (ys zs : List B) (o : Option ℕ) → followed_by (open_trace ys) (trace_at zs o None) ≡ trace_at (ys ++ zs) o None
one-joined ys zs None = refl
one-joined ys zs (Some code) = refl

-- what was made, and then what was made of others
two-joined : {B : Type 0} (ys : List B) (o : Option ℕ) (p : List B × Option ℕ)
    → followed_by (trace_at ys o None) (trace_at p.0 p.1 None) ≡ trace_at (both_made ys o p).0 (both_made ys o p).1 None
two-joined ys None p = one-joined ys p.0 p.1
two-joined ys (Some code) p = refl

last-joined : {B : Type 0} (ys : List B) (o : Option ℕ) (e : Option Ending) → followed_by (trace_at ys o None) (trace_of [] e) ≡ trace_at ys o e
last-joined ys None e = ap (λ zs. trace_of zs e) (append-nil ys)
last-joined ys (Some code) e = refl

module _ {T B : Type 0} (makes : T → Result (Option B) ℕ) where
  -- parts one after another are what they come to, combined
  joined-from : (ys : List B) (o : Option ℕ) (ps : List (List B × Option ℕ)) (e : Option Ending)
      → followed_by (trace_at ys o None) (parts_joined ps e) ≡ trace_at (fold (mapping makes).combine (ys, o) ps).0
      (fold (mapping makes).combine (ys, o) ps).1 e
  joined-from ys o [] e = last-joined ys o e
  joined-from ys o (p ∷ ps) e =
      sym (followed_by-followed_by (trace_at ys o None) (trace_at p.0 p.1 None) (parts_joined ps e))
      ∙ ap (λ t. followed_by t (parts_joined ps e)) (two-joined ys o p)
      ∙ joined-from (both_made ys o p).0 (both_made ys o p).1 ps e

  -- parts that stand for an answer hold what is made of it
  folded-made : (u : Trace T) (parts : Trace (List B × Option ℕ)) → IsFolded (mapping makes) u parts → parts_joined parts.items parts.ending ≡ made_of makes u
  folded-made u parts folds =
      let all : fold (mapping makes).combine ([], None) parts.items ≡ mapped_items makes u.items = folds.items [] ∙ fold_of-mapping makes u.items in
      joined-from [] None parts.items parts.ending
      ∙ ap (λ p. trace_at p.0 p.1 parts.ending) all
      ∙ ap (trace_at (mapped_items makes u.items).0 (mapped_items makes u.items).1) folds.ending

  module _ {K : Type 0} (accepts : K → List B → K → Type 0) (refuses : K → List B → ℕ → K → Type 0) (option : MergeOption) where
    gives-broken : (how : Result (Option Ending) DeliveryFault) (v : Trace B) (s : K) (held' : List B) (s' : K) (cause : Cause)
        → Gives accepts refuses (batch_size option) [] s v how held' s' → Breaks how cause
        → BreaksFor accepts refuses cause (batches option v) s s'
    gives-broken (Ok None) v s held' s' cause gives breaks = absurd breaks
    gives-broken (Ok (Some e)) v s held' s' cause gives breaks =
        subst (λ c. BreaksFor accepts refuses c (batches option v) s s') (sym breaks) (batches option v, [], sym (append-nil (batches option v)), gives.1)
    gives-broken (Err Memory) v s held' s' cause gives breaks = subst (λ c. BreaksFor accepts refuses c (batches option v) s s') (sym breaks) gives
    gives-broken (Err (Sink code)) v s held' s' cause gives breaks = subst (λ c. BreaksFor accepts refuses c (batches option v) s s') (sym breaks) gives

    module _ (first : DeliverMade B) (size : first.size ≡ batch_size option) (held : first.held.items ≡ []) where
      gives-made : (u : Trace T) (s : K) (how : Result (Option Ending) DeliveryFault) (s' : K)
          → (given : WasGiven (mapping makes) (MadeBy accepts refuses) u first s how s')
          → Gives accepts refuses (batch_size option) [] s (made_of makes u) how given.last.held.items s'
      gives-made u s how s' given =
          subst (λ v. Gives accepts refuses (batch_size option) [] s v how given.last.held.items s') (folded-made u given.parts given.folds)
          (subst (λ h. Gives accepts refuses (batch_size option) h s (parts_joined given.parts.items given.parts.ending) how given.last.held.items s') held
          (subst (λ n. Gives accepts refuses n first.held.items s (parts_joined given.parts.items given.parts.ending) how given.last.held.items s') size
          given.taken.gives))

      pub runs-made : (IsAnswer : Trace T → Type 0) (s : K) (r : Result Ending RunFault) (s' : K)
          → GivesSome (mapping makes) (MadeBy accepts refuses) IsAnswer first s r s'
          → RunsMadeOf accepts refuses option makes IsAnswer s s' r
      runs-made IsAnswer s (Ok e) s' h =
          let gives = gives-made h.0 s (Ok (Some e)) s' h.2 in
          (h.0, h.1, record { delivered = gives.1; ending = gives.0 })
      runs-made IsAnswer s (Err fault) s' h =
          (h.0, h.1, gives-broken h.2 (made_of makes h.0) s h.3.last.held.items s' (cause_of fault) (gives-made h.0 s h.2 s' h.3) h.4)

    -- with `as_ordered` there is one answer
    pub ordered-made : {L : Type 0} (meaning : L → Meaning T) (ordered : Bool) (ops : List (Op L)) (t : Trace T) (s : K) (r : Result Ending RunFault) (s' : K)
        → ordered ≡ true
        → RunsMadeOf accepts refuses option makes (MayAnswer meaning ordered ops t) s s' r
        → Runs accepts refuses option (made_of makes (answer_of meaning ops t)) s s' r
    ordered-made meaning ordered ops t s r s' is h =
        subst (λ u. Runs accepts refuses option (made_of makes u) s s' r) (subst (λ o. MayAnswer meaning o ops t h.0) is h.1) h.2

  -- a list that was given what was made of parts has what is made of an answer
  module _ (first : KeepMade B) (empty last : Kept B) (nothing : empty.items.items ≡ []) where
    pub keeps-made : (IsAnswer : Trace T → Type 0) (e : Ending) → GivesSome (mapping makes) KeepsBy IsAnswer first empty (Ok e) last
        → IsMadeOfSome makes IsAnswer last.items.items e
    keeps-made IsAnswer e h =
        let given = h.2 in
        let u : Trace B = parts_joined given.parts.items given.parts.ending in
        let all : last.items.items ≡ u.items = given.taken.1 ∙ ap (λ l. l ++ u.items) nothing in
        (h.0, h.1, ap (λ l. trace_of l (Some e)) all ∙ ap (trace_of u.items) (sym given.taken.0) ∙ folded-made h.0 given.parts given.folds)

  pub ordered-list : {L : Type 0} (meaning : L → Meaning T) (ordered : Bool) (ops : List (Op L)) (t : Trace T) (ys : List B) (e : Ending)
      → ordered ≡ true → IsMadeOfSome makes (MayAnswer meaning ordered ops t) ys e
      → IsMadeOf makes (answer_of meaning ops t) ys e
  ordered-list meaning ordered ops t ys e is h = subst (λ u. IsMadeOf makes u ys e) (subst (λ o. MayAnswer meaning o ops t h.0) is h.1) h.2
