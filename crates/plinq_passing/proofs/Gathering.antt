-- What comes item by item goes to a sink in the batches of all.
use Rattle.std.specs.Prelude.{◌≡◌, ⊤, ℕ, List, [], ◌∷◌, ◌++◌, Bool, Option, Some, None, Result, Ok, Err}
use Rattle.std.proofs.Common.{refl, ◌∙◌, ap, subst, sym, append-nil, append_assoc}
use Rattle.plinq_source.specs.declared.ending.Ending.{Ending}
use Rattle.plinq_source.specs.declared.ending.Ending.TheVariants.{End}
use Rattle.plinq_source.specs.Trace.{open_trace, ended_trace}
use Rattle.plinq_source.proofs.Followed.{trace_of}
use Rattle.plinq_merge.specs.declared.delivery_fault.DeliveryFault.{DeliveryFault}
use Rattle.plinq_merge.specs.declared.delivery_fault.DeliveryFault.TheVariants.{Memory as NoRoom, Sink as Refusal}
use Rattle.plinq_merge.specs.Sending.{Leads, TakesBeginning, RefusesNext, IsCutOff}
use Rattle.plinq_ops.specs.Batches.{full_batches, batches_from}
use Rattle.plinq_mapped.specs.Making.{DeliversOn, Gives, gives-begins, gives-after, gives-breaks, gives-stops}
use Rattle.plinq_run.specs.declared.run_fault.RunFault.TheVariants.{Memory, Sink, Tickets, Thread, Incomplete, Cancelled}
use Rattle.plinq_passing.specs.declared.query_fault.QueryFault.{QueryFault}
use Rattle.plinq_passing.specs.declared.query_fault.QueryFault.TheVariants.{Degree, Growth, Ended, Run}
use Rattle.plinq_passing.specs.Ran.{Ran}
use Rattle.plinq_passing.specs.Passing.{SendsLast, Finishes, Touches, Touched, told_delivery, refusal_of}
use Rattle.plinq_passing.proofs.Touching.{touched-none, touched-on, touched-by, touched-refused}

module _ {G K T N : Type 0} (accepts : K → List T → K → Type 0) (refuses : K → List T → ℕ → K → Type 0) (size : G → Option ℕ) (held : G → List T)
    (short : G → Bool) (sink : G → K) (name : G → N) where
  abbrev TakesIn : G → T → G → Type 0
  TakesIn s y t = (DeliversOn accepts refuses (size s) (held s) (sink s) (open_trace (y ∷ [])) (held t) (sink t)) × (size t ≡ size s) × (name t ≡ name s)

  abbrev RefusesIn : G → T → ℕ → G → Type 0
  RefusesIn s y code t = (IsCutOff accepts refuses (sink s) (batches_from (size s) (held s) (open_trace (y ∷ []))) (refusal_of (short t) code) (sink t))
      × (size t ≡ size s) × (name t ≡ name s)

  record HasGathered (s t : G) (ys : List T) : Type 0 where
    pub on : DeliversOn accepts refuses (size s) (held s) (sink s) (open_trace ys) (held t) (sink t)
    pub same : size t ≡ size s

  gathered : (ys : List T) (s t : G) → Leads TakesIn s ys t → HasGathered s t ys
  gathered [] s t is =
      subst (λ it. HasGathered s it []) (sym is) (record { on = gives-begins accepts refuses (size s) (held s) (sink s); same = refl })
  gathered (y ∷ ys) s t (m, one, rest) =
      let more = gathered ys m t rest in
      record {
        on = gives-after accepts refuses (size s) (held s) (sink s) (open_trace (y ∷ [])) (held m) (sink m) (open_trace ys) (Ok None) (held t) (sink t) one.0
            (subst (λ n. DeliversOn accepts refuses n (held m) (sink m) (open_trace ys) (held t) (sink t)) one.1 more.on);
        same = more.same ∙ one.1;
      }

  -- nothing happened to the sink but that batches came to it
  cut-touches : (bs : List (List T)) (fault : DeliveryFault) (k k' : K) → IsCutOff accepts refuses k bs fault k' → Touched accepts refuses k k'
  cut-touches bs NoRoom k k' (sent, rest, parts, leads) = touched-by accepts refuses sent k k' leads
  cut-touches bs (Refusal code) k k' (sent, next, rest, m, parts, leads, refused) =
      touched-on accepts refuses k m k' (touched-by accepts refuses sent k m leads) (touched-refused accepts refuses m next code k' refused)

  led-touches : (touches : List (T × Option ℕ)) (s t : G) → Leads (Touches TakesIn RefusesIn) s touches t → Touched accepts refuses (sink s) (sink t)
  led-touches [] s t is = touched-none accepts refuses (sink s) (sink t) (ap sink is)
  led-touches ((y, None) ∷ more) s t (m, one, rest) =
      touched-on accepts refuses (sink s) (sink m) (sink t) (touched-by accepts refuses _ (sink s) (sink m) one.0.leads) (led-touches more m t rest)
  led-touches ((y, Some code) ∷ more) s t (m, one, rest) =
      touched-on accepts refuses (sink s) (sink m) (sink t) (cut-touches _ (refusal_of (short m) code) (sink s) (sink m) one.0) (led-touches more m t rest)

  last-touches : (n : Option ℕ) (h : List T) (e : Ending) (k : K) (how r : Result ⊤ QueryFault) (k' : K)
      → SendsLast accepts refuses n h e k how r k' → Touched accepts refuses k k'
  last-touches n h e k how r k' (Ok None, h', gives, told) =
      touched-by accepts refuses (full_batches n h []) k k' gives.leads
  last-touches n h e k how r k' (Ok (Some e'), h', gives, told) =
      touched-by accepts refuses (batches_from n h (ended_trace [] e)) k k' gives.1
  last-touches n h e k how r k' (Err fault, h', gives, told) =
      cut-touches (batches_from n h (ended_trace [] e)) fault k k' gives

  finish-touches : (n : Option ℕ) (h : List T) (lacks : Bool) (k : K) (r r' : Result ⊤ QueryFault) (k' : K)
      → Finishes accepts refuses n h lacks k r r' k' → Touched accepts refuses k k'
  finish-touches n h lacks k (Ok all) r' k' fin = last-touches n h End k (Ok tt) r' k' fin
  finish-touches n h lacks k (Err Degree) r' k' fin = touched-none accepts refuses k k' fin.1
  finish-touches n h lacks k (Err (Growth fault)) r' k' fin = touched-none accepts refuses k k' fin.1
  finish-touches n h lacks k (Err (Ended e)) r' k' fin = last-touches n h e k (Err (Ended e)) r' k' fin
  finish-touches n h lacks k (Err (Run Memory)) r' k' fin = touched-none accepts refuses k k' fin.1
  finish-touches n h lacks k (Err (Run (Sink code))) r' k' fin = touched-none accepts refuses k k' fin.1
  finish-touches n h lacks k (Err (Run Tickets)) r' k' fin = touched-none accepts refuses k k' fin.1
  finish-touches n h lacks k (Err (Run Thread)) r' k' fin = touched-none accepts refuses k k' fin.1
  finish-touches n h lacks k (Err (Run Incomplete)) r' k' fin = touched-none accepts refuses k k' fin.1
  finish-touches n h lacks k (Err (Run Cancelled)) r' k' fin = touched-none accepts refuses k k' fin.1

  pub gathered-touches : (s t : G) → Touched TakesIn RefusesIn s t → (r r' : Result ⊤ QueryFault) (k' : K)
      → Finishes accepts refuses (size t) (held t) (short t) (sink t) r r' k' → Touched accepts refuses (sink s) k'
  gathered-touches s t (touches, leads) r r' k' fin =
      touched-on accepts refuses (sink s) (sink t) k' (led-touches touches s t leads)
      (finish-touches (size t) (held t) (short t) (sink t) r r' k' fin)

  module _ (Stops : Type 0) (workers : ℕ) (growth : Option (ℕ × ℕ × ℕ)) (ys : List T) (ending : Option Ending) (s t : G) where
    abbrev All : List (List T)
    All = batches_from (size s) (held s) (trace_of ys ending)

    abbrev Went : Result ⊤ QueryFault → K → Type 0
    Went r k = Ran accepts refuses Stops workers growth All ending (sink s) r k

    -- what was left goes out after what was sent
    sent-last : HasGathered s t ys → (e : Ending) → ending ≡ Some e → (sent : Result (Option Ending) DeliveryFault) (h : List T) (k : K)
        → Gives accepts refuses (size t) (held t) (sink t) (ended_trace [] e) sent h k
        → Gives accepts refuses (size s) (held s) (sink s) (trace_of ys ending) sent h k
    sent-last has e is sent h k gives =
        subst (λ it. Gives accepts refuses (size s) (held s) (sink s) (trace_of ys it) sent h k) (sym is)
        (subst (λ zs. Gives accepts refuses (size s) (held s) (sink s) (trace_of zs (Some e)) sent h k) (append-nil ys)
        (gives-after accepts refuses (size s) (held s) (sink s) (open_trace ys) (held t) (sink t) (ended_trace [] e) sent h k has.on
        (subst (λ n. Gives accepts refuses n (held t) (sink t) (ended_trace [] e) sent h k) has.same gives)))

    cut-went : (fault : DeliveryFault) (k : K) → IsCutOff accepts refuses (sink s) All fault k → Went (Err (told_delivery fault)) k
    cut-went NoRoom k cut = cut
    cut-went (Refusal code) k cut = cut

    ends : HasGathered s t ys → (e : Ending) → ending ≡ Some e → (how : Result ⊤ QueryFault) → ((k : K) → Leads accepts (sink s) All k → Went how k)
        → (r : Result ⊤ QueryFault) (k : K) → SendsLast accepts refuses (size t) (held t) e (sink t) how r k → Went r k
    ends has e is how well r k (Ok None, h, gives, told) =
        absurd (let bad : ◌≡◌ {A = Option Ending} (Some e) None = gives.still in cc)
    ends has e is how well r k (Ok (Some e'), h, gives, told) =
        subst (λ it. Went it k) (sym told) (well k (sent-last has e is (Ok (Some e')) h k gives).1)
    ends has e is how well r k (Err fault, h, gives, told) =
        subst (λ it. Went it k) (sym told) (cut-went fault k (sent-last has e is (Err fault) h k gives))

    -- the first of them came, and no more
    begins : TakesBeginning TakesIn s ys t → TakesBeginning accepts (sink s) All (sink t)
    begins (sent, rest, parts, leads) =
        subst (λ zs. TakesBeginning accepts (sink s) (batches_from (size s) (held s) (trace_of zs ending)) (sink t)) (sym parts)
        (gives-stops accepts refuses (size s) (held s) (sink s) (open_trace sent) (held t) (sink t) (trace_of rest ending) (gathered sent s t leads).on)

    came : TakesBeginning TakesIn s ys t → (k : K) → k ≡ sink t → TakesBeginning accepts (sink s) All k
    came is k same = subst (λ it. TakesBeginning accepts (sink s) All it) (sym same) (begins is)

    -- one was refused
    refused : (code : ℕ) → RefusesNext TakesIn RefusesIn s ys code t → IsCutOff accepts refuses (sink s) All (refusal_of (short t) code) (sink t)
    refused code (sent, y, rest, m, parts, leads, last) =
        let fault = refusal_of (short t) code in
        let has = gathered sent s m leads in
        let one = gives-after accepts refuses (size s) (held s) (sink s) (open_trace sent) (held m) (sink m) (open_trace (y ∷ [])) (Err fault) (held t) (sink t)
        has.on (subst (λ n. IsCutOff accepts refuses (sink m) (batches_from n (held m) (open_trace (y ∷ []))) fault (sink t)) has.same last.0) in
        subst (λ zs. IsCutOff accepts refuses (sink s) (batches_from (size s) (held s) (trace_of zs ending)) fault (sink t))
        (append_assoc sent (y ∷ []) rest ∙ sym parts)
        (gives-breaks accepts refuses (size s) (held s) (sink s) (open_trace (sent ++ y ∷ [])) fault (sink t) (trace_of rest ending) one)

    went : (r : Result ⊤ QueryFault) → Ran TakesIn RefusesIn Stops workers growth ys ending s r t → (r' : Result ⊤ QueryFault) (k : K)
        → Finishes accepts refuses (size t) (held t) (short t) (sink t) r r' k → Went r' k
    went (Ok all) ran r' k fin = ends (gathered ys s t ran.0) End ran.1 (Ok tt) (λ k leads. (leads, ran.1)) r' k fin
    went (Err Degree) ran r' k fin = subst (λ it. Went it k) (sym fin.0) (fin.1 ∙ ap sink ran.0, ran.1)
    went (Err (Growth fault)) ran r' k fin = subst (λ it. Went it k) (sym fin.0) (fin.1 ∙ ap sink ran.0, ran.1)
    went (Err (Ended e)) ran r' k fin = ends (gathered ys s t ran.0) e ran.1 (Err (Ended e)) (λ k leads. (leads, ran.1, ran.2)) r' k fin
    went (Err (Run Memory)) ran r' k fin = subst (λ it. Went it k) (sym fin.0) (came ran k fin.1)
    went (Err (Run (Sink code))) ran r' k fin =
        subst (λ it. Went it k) (sym fin.0) (cut-went (refusal_of (short t) code) k
        (subst (λ it. IsCutOff accepts refuses (sink s) All (refusal_of (short t) code) it) (sym fin.1) (refused code ran)))
    went (Err (Run Tickets)) ran r' k fin = subst (λ it. Went it k) (sym fin.0) (came ran k fin.1)
    went (Err (Run Thread)) ran r' k fin = subst (λ it. Went it k) (sym fin.0) (came ran k fin.1)
    went (Err (Run Incomplete)) ran r' k fin = subst (λ it. Went it k) (sym fin.0) (came ran k fin.1)
    went (Err (Run Cancelled)) ran r' k fin = subst (λ it. Went it k) (sym fin.0) (ran.0, came ran.1 k fin.1)

    -- what came to a sink by way of those that are held back, of which there are none at first
    pub gathered-ran : held s ≡ [] → (n : Option ℕ) → size s ≡ n → (r : Result ⊤ QueryFault) → Ran TakesIn RefusesIn Stops workers growth ys ending s r t
        → (r' : Result ⊤ QueryFault) (k : K) → Finishes accepts refuses (size t) (held t) (short t) (sink t) r r' k
        → Ran accepts refuses Stops workers growth (batches_from n [] (trace_of ys ending)) ending (sink s) r' k
    gathered-ran none n is r ran r' k fin =
        subst (λ h. Ran accepts refuses Stops workers growth (batches_from n h (trace_of ys ending)) ending (sink s) r' k) none
        (subst (λ it. Ran accepts refuses Stops workers growth (batches_from it (held s) (trace_of ys ending)) ending (sink s) r' k) is (went r ran r' k fin))
