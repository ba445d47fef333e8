-- What an offer to a merger brings: what the answer gains by it, and what the merger answers.
use Rattle.plinq_merge.proofs.MergerWords.{◌≡◌, ℕ, List, [], ◌∷◌, ◌++◌, Bool, true, false, cond, Option, Some, None, Result, Ok, Err, refl, sym, ◌∙◌, ap}
use Rattle.plinq_merge.proofs.MergerWords.{and_parts, Ending, End, Trace, open_trace, ended_trace, followed_by, followed_by-open_nil, Meaning, ChunkResult}
use Rattle.plinq_merge.proofs.MergerWords.{Stage, seq, some_takes_none, stages_of, batches_from, stages, batches_from-open, Op, DeliveryFault, Deliver, More}
use Rattle.plinq_merge.proofs.MergerWords.{Yes, No, MergeFault, Memory, Sink, Twice, NoMemory, Refusal, JoinerState, Open, Decided, HasFailed, held_of, size_of}
use Rattle.plinq_merge.proofs.MergerWords.{Delivers, Merge, merged_trace, answer, shown_batches, GoesOn, Joins, Waits, JoinsOfferAt, Line, can_deliver}
use Rattle.plinq_merge.proofs.MergerWords.{batches-on, held-on, Work, Brings, OffersAt, SendsSome}
use Rattle.std.specs.Prelude.{not}
use Rattle.std.proofs.lemmas.Bool.{not-true}
use Rattle.plinq_ops.proofs.{Open.seq-nothing}
use Rattle.plinq_merge.specs.{Deliveries.goes_on-on, Delivering.line_of, Delivering.Gives, Delivering.MadeBy, Working.merge_of, Working.Rests}

pub answer-open : {T : Type 0} (merge : Merge T) (offers : List (ChunkResult T)) → merge.decided ≡ false
    → answer merge offers ≡ seq merge.after (merged_trace merge.order offers)
answer-open merge offers undecided = ap (λ b. cond b (ended_trace [] End) (seq merge.after (merged_trace merge.order offers))) undecided

-- what operators give that go on after a trace, and give nothing of nothing
answer-on : {T : Type 0} {ss ss' : List (Stage T)} {t : Trace T} {out : List T} → GoesOn ss t out None ss' → seq ss' (open_trace []) ≡ open_trace []
    → seq ss t ≡ open_trace out
answer-on {t} {out} on nothing = rw (followed_by-open_nil t, nothing, followed_by-open_nil (open_trace out)) at (on.answers (open_trace []))

module _ {K T : Type 0} (accepts : K → List T → K → Type 0) (refuses : K → List T → ℕ → K → Type 0) where
  -- what was delivered of a trace are the batches of what it gives
  delivers-gives : (l : Line T) (s : K) (t : Trace T) (r : Result (Option Ending) DeliveryFault) (l' : Line T) (s' : K)
      → (r ≡ Ok None → seq l'.now (open_trace []) ≡ open_trace [])
      → Gives accepts refuses l s t r l' s' → Delivers accepts refuses s (batches_from l.size l.held (seq l.now t)) r s'
  delivers-gives l s t (Ok None) l' s' nothing on =
      rw (answer-on on.on (nothing refl), batches_from-open l.size l.held on.out) on.leads
  delivers-gives l s t (Ok (Some e)) l' s' nothing gives = gives.1
  delivers-gives l s t (Err fault) l' s' nothing gives = gives

module _ {L T : Type 0} (meaning : L → Meaning T) (decided : Bool) (w : Work L T) (r : ChunkResult T) where
  module _ (offers : List (ChunkResult T)) (rests : Rests meaning decided w offers) (gained : Trace T)
      (grows : merged_trace w.order (offers ++ r ∷ []) ≡ followed_by (merged_trace w.order offers) gained) where
    -- the answer to one offer more, by what the offers merge to then
    answer-gained : answer (merge_of meaning decided w) (offers ++ r ∷ []) ≡ followed_by (open_trace rests.out) (seq (stages meaning w.taker.pipeline) gained)
    answer-gained = rw (answer-open (merge_of meaning decided w) (offers ++ r ∷ []) rests.undecided, grows) (rests.on.answers gained)

    -- the batches that it gains
    shown_batches-gained : shown_batches (merge_of meaning decided w) (offers ++ r ∷ [])
        ≡ shown_batches (merge_of meaning decided w) offers ++ batches_from (size_of w.taker.buffer) (held_of w.taker.buffer)
        (seq (stages meaning w.taker.pipeline) gained)
    shown_batches-gained =
        rw (answer-open (merge_of meaning decided w) offers rests.undecided, answer-on rests.on rests.nothing, batches_from-open _ [] rests.out)
        (batches-on _ [] rests.out _ _ _ answer-gained rests.held)

  module _ {K : Type 0} (accepts : K → List T → K → Type 0) (refuses : K → List T → ℕ → K → Type 0) (s : K) (w' : Work L T) (s' : K) where
    abbrev JoinsTo : Result (Option Ending) DeliveryFault → Type 0
    JoinsTo result = Joins (MadeBy accepts refuses meaning) w r s result w' s'

    abbrev GivesNothing : Type 0
    GivesNothing = seq (stages meaning w'.taker.pipeline) (open_trace []) ≡ open_trace []

    -- of what it gains as much was delivered as the result says
    brings-joined : (result : Result (Option Ending) DeliveryFault) → (result ≡ Ok None → GivesNothing) → JoinsTo result → (offers : List (ChunkResult T))
        → Rests meaning decided w offers → Brings (merge_of meaning decided w) offers r (λ gained. Delivers accepts refuses s gained result s')
    brings-joined result nothing joins offers rests =
        let l : Line T = line_of meaning w.taker in
        record {
          are_new = joins.are_new offers rests.waits;
          gained = batches_from l.size l.held (seq l.now joins.gained);
          grows = shown_batches-gained offers rests joins.gained (joins.grows offers rests.waits);
          sent = delivers-gives accepts refuses l s joins.gained result (line_of meaning w'.taker) s' nothing joins.taken.gives;
        }

    -- the answer goes on
    rests-joined : w'.order ≡ w.order → GivesNothing → JoinsTo (Ok None) → (offers : List (ChunkResult T)) → Rests meaning decided w offers
        → Rests meaning decided w' (offers ++ r ∷ [])
    rests-joined same nothing joins offers rests =
        let plan = joins.taken.plan in
        let next = joins.taken.gives in
        record {
          undecided = rests.undecided;
          waits = joins.waits refl offers rests.waits;
          out = rests.out ++ next.out;
          on = rw (plan.after, same, joins.grows offers rests.waits) (goes_on-on _ _ _ _ _ _ _ rests.on next.on);
          nothing = nothing;
          held = rw plan.size (held-on _ [] _ _ rests.out next.out rests.held next.held);
        }

    -- the answer has ended
    ends-joined : (e : Ending) → JoinsTo (Ok (Some e)) → (offers : List (ChunkResult T)) → Rests meaning decided w offers
        → (answer (merge_of meaning decided w) (offers ++ r ∷ [])).ending ≡ Some e
    ends-joined e joins offers rests =
        ap (λ t. t.ending) (answer-gained offers rests joins.gained (joins.grows offers rests.waits)) ∙ joins.taken.gives.0

    module _ (standing' : JoinerState) where
      -- what was delivered, whatever the offers
      pub sends-joined : (standing : JoinerState) (result : Result More MergeFault)
          → JoinsOfferAt (MadeBy accepts refuses meaning) w standing r s result w' standing' s' → SendsSome accepts refuses s result s'
      sends-joined Open (Ok Yes) o = (_, o.1.taken.gives.leads)
      sends-joined Open (Ok No) o = (_, o.2.taken.gives.1)
      sends-joined Open (Err Memory) o = (_, o.1.taken.gives)
      sends-joined Open (Err (Sink code)) o = (_, o.1.taken.gives)
      sends-joined Open (Err Twice) o = ([], ([], [], refl, o.2))
      sends-joined Open (Err fault) o = absurd o
      sends-joined (Decided e) result o = rw o.0 ([], o.3)
      sends-joined HasFailed result o = rw o.0 ([], ([], [], refl, o.3))

      module _ (same : w'.order ≡ w.order) (nothing : standing' ≡ Open → GivesNothing) where
        -- what the joiner did is what the merger owes
        pub offers-joined : (standing : JoinerState) (result : Result More MergeFault)
            → JoinsOfferAt (MadeBy accepts refuses meaning) w standing r s result w' standing' s'
            → OffersAt meaning decided accepts refuses w standing r s result w' standing' s'
        offers-joined Open (Ok Yes) o =
            let still = nothing o.0 in (o.0, λ offers rests. (brings-joined (Ok None) (λ _. still) o.1 offers rests, rests-joined same still o.1 offers rests))
        offers-joined Open (Ok No) o =
            (o.0, o.1, λ offers rests. (brings-joined (Ok (Some o.0)) (λ bad. absurd (cc)) o.2 offers rests, ends-joined o.0 o.2 offers rests))
        offers-joined Open (Err Memory) o = (o.0, brings-joined (Err NoMemory) (λ bad. absurd (cc)) o.1)
        offers-joined Open (Err (Sink code)) o = (o.0, brings-joined (Err (Refusal code)) (λ bad. absurd (cc)) o.1)
        offers-joined Open (Err Twice) o = (o.0, o.1, o.2, λ offers rests. o.3 offers rests.waits)
        offers-joined Open (Err fault) o = absurd o
        offers-joined standing result o = o

module _ {L T : Type 0} (meaning : L → Meaning T) where
  -- operators that can take items give nothing of nothing
  pub nothing-made : (d : Deliver L T) → can_deliver meaning d ≡ true → seq (stages meaning d.pipeline) (open_trace []) ≡ open_trace []
  nothing-made d can =
      let parts = and_parts (not (some_takes_none (stages meaning d.pipeline))) _ can in seq-nothing (stages meaning d.pipeline) None (not-true _ parts.0)

  -- nothing was offered to a new merger
  pub begun-rests : (decided : Bool) (w : Work L T) (d : Deliver L T) (ops : List (Op L)) (size : Option ℕ) → decided ≡ false → Waits w.order w.row []
      → w.taker ≡ d → can_deliver meaning d ≡ true
      → line_of meaning d ≡ record { after = stages_of meaning ops; now = stages_of meaning ops; held = []; size = size } → Rests meaning decided w []
  begun-rests decided w d ops size undecided waits same can begun =
      let start = ap (λ l. l.after) begun ∙ sym (ap (λ l. l.now) begun) in
      record {
        undecided = undecided;
        waits = waits;
        out = [];
        on = record { answers = λ rest. rw same (ap (λ ss. seq ss rest) start) };
        nothing = nothing-made w.taker (rw same can);
        held = rw same (ap (λ l. l.held) begun);
      }
