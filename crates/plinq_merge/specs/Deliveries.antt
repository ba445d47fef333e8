-- Deliveries of traces one after another.
use Rattle.std.specs.Prelude.{◌≡◌, ℕ, List, [], ◌++◌, Option, Some, None, Result, Ok, Err, refl}
use Rattle.std.proofs.Common.{sym, ◌∙◌, ap, subst, append-nil}
use Rattle.plinq_source.specs.declared.ending.Ending.{Ending}
use Rattle.plinq_source.specs.Trace.{Trace, open_trace, followed_by}
use Rattle.plinq_source.proofs.Followed.{trace_of, followed_by-followed_by, followed_by-ended}
use Rattle.plinq_ops.specs.Stage.{Stage, seq, seq_after}
use Rattle.plinq_ops.specs.Batches.{full_batches, held_back, batches_from}
use Rattle.plinq_ops.proofs.Stages.{seq-followed_by}
use Rattle.plinq_ops.proofs.GrowingBatches.{full_batches-append, held_back-append, batches_from-followed_by, batches_from-open}
use Rattle.plinq_merge.specs.declared.delivery_fault.DeliveryFault.{DeliveryFault}
use Rattle.plinq_merge.specs.declared.delivery_fault.DeliveryFault.TheVariants.{Memory}
use Rattle.plinq_merge.specs.Merging.{GoesOn}
use Rattle.plinq_merge.specs.Sending.{Leads, IsCutOff}
use Rattle.plinq_merge.specs.inner.Sent.{leads-append, cut-after, cut-before}
use Rattle.plinq_merge.specs.Taking.{IsTaking}
use Rattle.plinq_merge.specs.Delivering.{Line, KeepsPlan, DeliversOn, Gives, Made}

-- the batches of a trace that others follow begin with its own
pub batches-first : {T : Type 0} (size : Option ℕ) (held : List T) (a b : Trace T)
    → (more : List (List T)) × (batches_from size held (followed_by a b) ≡ batches_from size held a ++ more)
batches-first {T} size held a b = by_ending a.items a.ending
  where
    by_ending : (xs : List T) (e : Option Ending)
        → (more : List (List T)) × (batches_from size held (followed_by (trace_of xs e) b) ≡ batches_from size held (trace_of xs e) ++ more)
    by_ending xs None = (
      batches_from size (held_back size held xs) b,
      batches_from-followed_by size held xs b
          ∙ ap (λ bs. bs ++ batches_from size (held_back size held xs) b) (sym (batches_from-open size held xs)),
    )
    by_ending xs (Some e) = ([], sym (append-nil (batches_from size held (trace_of xs (Some e)))))

-- the batches of open items and of what comes after them
pub batches-on : {T : Type 0} (size : Option ℕ) (held xs held' : List T) (all rest : Trace T) → all ≡ followed_by (open_trace xs) rest
    → held' ≡ held_back size held xs
    → batches_from size held all ≡ full_batches size held xs ++ batches_from size held' rest
batches-on size held xs held' all rest is keeps =
    ap (batches_from size held) is ∙ batches_from-followed_by size held xs rest ∙ ap (λ h. full_batches size held xs ++ batches_from size h rest) (sym keeps)

-- what is held back of items, and of others after them
pub held-on : {T : Type 0} (size : Option ℕ) (held held1 held2 xs ys : List T) → held1 ≡ held_back size held xs → held2 ≡ held_back size held1 ys
    → held2 ≡ held_back size held (xs ++ ys)
held-on size held held1 held2 xs ys first second = second ∙ ap (λ h. held_back size h ys) first ∙ sym (held_back-append size held xs ys)

-- the full batches of items and of others after them were delivered
pub leads-filled : {K T : Type 0} (accepts : K → List T → K → Type 0) (size : Option ℕ) (held held1 xs ys : List T) (s s1 s2 : K)
    → held1 ≡ held_back size held xs → Leads accepts s (full_batches size held xs) s1
    → Leads accepts s1 (full_batches size held1 ys) s2 → Leads accepts s (full_batches size held (xs ++ ys)) s2
leads-filled accepts size held held1 xs ys s s1 s2 keeps first second =
    subst (λ bs. Leads accepts s bs s2) (sym (full_batches-append size held xs ys ∙ ap (λ h. full_batches size held xs ++ full_batches size h ys) (sym keeps)))
    (leads-append accepts s (full_batches size held xs) (full_batches size held1 ys) s1 s2 first second)

-- operators go on after one trace, and then after another
pub goes_on-on : {T : Type 0} (now now1 now2 : List (Stage T)) (t u : Trace T) (xs ys : List T) → GoesOn now t xs None now1 → GoesOn now1 u ys None now2
    → GoesOn now (followed_by t u) (xs ++ ys) None now2
goes_on-on now now1 now2 t u xs ys first second =
    record {
      answers = λ rest.
          ap (seq now) (followed_by-followed_by t u rest)
          ∙ first.answers (followed_by u rest)
          ∙ ap (followed_by (open_trace xs)) (second.answers rest)
          ∙ sym (followed_by-followed_by (open_trace xs) (open_trace ys) (seq now2 rest));
    }

module _ {K T : Type 0} (accepts : K → List T → K → Type 0) (refuses : K → List T → ℕ → K → Type 0) where
  gives-begins : (l : Line T) (s : K) → DeliversOn accepts refuses l s (open_trace []) l s
  gives-begins l s = record { out = []; on = record { answers = λ rest. refl }; held = refl; leads = refl }

  -- the answer to what follows an open trace that was delivered
  answer-after : (l : Line T) (s : K) (xs : List T) (l1 : Line T) (s1 : K) (t : Trace T) → KeepsPlan l l1
      → (on : DeliversOn accepts refuses l s (open_trace xs) l1 s1)
      → batches_from l.size l.held (seq l.now (followed_by (open_trace xs) t))
      ≡ full_batches l.size l.held on.out ++ batches_from l1.size l1.held (seq l1.now t)
  answer-after l s xs l1 s1 t plan on =
      batches-on l.size l.held on.out l1.held _ (seq l1.now t) (on.on.answers t) on.held
      ∙ ap (λ n. full_batches l.size l.held on.out ++ batches_from n l1.held (seq l1.now t)) (sym plan.size)

  gives-goes_on : (l : Line T) (s : K) (xs : List T) (l1 : Line T) (s1 : K) (t : Trace T) (r : Result (Option Ending) DeliveryFault) (l2 : Line T) (s2 : K)
      → KeepsPlan l l1 → DeliversOn accepts refuses l s (open_trace xs) l1 s1 → Gives accepts refuses l1 s1 t r l2 s2
      → Gives accepts refuses l s (followed_by (open_trace xs) t) r l2 s2
  gives-goes_on l s xs l1 s1 t (Ok None) l2 s2 plan first second =
      record {
        out = first.out ++ second.out;
        on = goes_on-on l.now l1.now l2.now (open_trace xs) t first.out second.out first.on second.on;
        held = held-on l.size l.held l1.held l2.held first.out second.out first.held (second.held ∙ ap (λ n. held_back n l1.held second.out) plan.size);
        leads = leads-filled accepts l.size l.held l1.held first.out second.out s s1 s2 first.held first.leads
            (subst (λ n. Leads accepts s1 (full_batches n l1.held second.out) s2) plan.size second.leads);
      }
  gives-goes_on l s xs l1 s1 t (Ok (Some e)) l2 s2 plan first second =
      let P : List (List T) → Type 0 = λ bs. Leads accepts s bs s2 in (
        ap (λ u. u.ending) (first.on.answers t) ∙ second.0,
        subst P (sym (answer-after l s xs l1 s1 t plan first))
            (leads-append accepts s (full_batches l.size l.held first.out) (batches_from l1.size l1.held (seq l1.now t)) s1 s2 first.leads second.1),
      )
  gives-goes_on l s xs l1 s1 t (Err fault) l2 s2 plan first second =
      let P : List (List T) → Type 0 = λ bs. IsCutOff accepts refuses s bs fault s2 in
      subst P (sym (answer-after l s xs l1 s1 t plan first))
      (cut-after accepts refuses s (full_batches l.size l.held first.out) (batches_from l1.size l1.held (seq l1.now t)) fault s1 s2 first.leads second)

  gives-ends : (l : Line T) (s : K) (t : Trace T) (e : Ending) (l' : Line T) (s' : K) (rest : Trace T)
      → Gives accepts refuses l s t (Ok (Some e)) l' s' → Gives accepts refuses l s (followed_by t rest) (Ok (Some e)) l' s'
  gives-ends l s t e l' s' rest gives =
      let same : seq l.now (followed_by t rest) ≡ seq l.now t =
      seq-followed_by l.now t rest ∙ followed_by-ended (seq l.now t) (seq (seq_after l.now t) rest) e gives.0 in
      let P : Trace T → Type 0 = λ u. (u.ending ≡ Some e) × Leads accepts s (batches_from l.size l.held u) s' in
      subst P (sym same) gives

  gives-breaks : (l : Line T) (s : K) (t : Trace T) (fault : DeliveryFault) (l' : Line T) (s' : K) (rest : Trace T)
      → Gives accepts refuses l s t (Err fault) l' s' → Gives accepts refuses l s (followed_by t rest) (Err fault) l' s'
  gives-breaks l s t fault l' s' rest gives =
      let more = batches-first l.size l.held (seq l.now t) (seq (seq_after l.now t) rest) in
      let P : List (List T) → Type 0 = λ bs. IsCutOff accepts refuses s bs fault s' in
      subst P (sym (ap (batches_from l.size l.held) (seq-followed_by l.now t rest) ∙ more.1))
      (cut-before accepts refuses s (batches_from l.size l.held (seq l.now t)) more.0 fault s' gives)

  gives-stops : (l : Line T) (s : K) (xs : List T) (l' : Line T) (s' : K) (rest : Trace T) → KeepsPlan l l'
      → DeliversOn accepts refuses l s (open_trace xs) l' s' → Gives accepts refuses l s (followed_by (open_trace xs) rest) (Err Memory) l' s'
  gives-stops l s xs l' s' rest plan on = (
    full_batches l.size l.held on.out,
    batches_from l'.size l'.held (seq l'.now rest),
    answer-after l s xs l' s' rest plan on,
    on.leads,
  )

  plan-on : (l m l' : Line T) → KeepsPlan l m → KeepsPlan m l' → KeepsPlan l l'
  plan-on l m l' first second = record { after = second.after ∙ first.after; size = second.size ∙ first.size }

  -- what is delivered of one trace after another is what is delivered of both
  pub made-lawful : {D : Type 0} (line : D → Line T) → IsTaking (λ d s t r d' s'. Made accepts refuses (line d) s t r (line d') s')
  made-lawful line =
      record {
        begins = λ d s. record { plan = record { after = refl; size = refl }; gives = gives-begins (line d) s };
        goes_on = λ d s xs d1 s1 t r d2 s2 first second.
            record {
              plan = plan-on (line d) (line d1) (line d2) first.plan second.plan;
              gives = gives-goes_on (line d) s xs (line d1) s1 t r (line d2) s2 first.plan first.gives second.gives;
            };
        ends = λ d s t e d' s' rest made. record { plan = made.plan; gives = gives-ends (line d) s t e (line d') s' rest made.gives };
        breaks = λ d s t fault d' s' rest made. record { plan = made.plan; gives = gives-breaks (line d) s t fault (line d') s' rest made.gives };
        stops = λ d s xs d' s' rest made. record { plan = made.plan; gives = gives-stops (line d) s xs (line d') s' rest made.plan made.gives };
      }
