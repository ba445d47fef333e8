-- What was accepted of the parts that workers send is merged; and what is reported of it: where no fault is, it is all that was sent.
use Rattle.plinq_run.proofs.RunWords.{◌≡◌, List, [], Bool, Option, Some, None, Result, Ok, Err, All, sym, ◌∙◌, ap, subst, inl, inr, arith, All-nil, All-weaker}
use Rattle.plinq_run.proofs.RunWords.{Ending, SourceGhosts, Trace, open_trace, Record, all_shares, Order, ChunkResult, DeliveryFault, NoMemory, MergeFault}
use Rattle.plinq_run.proofs.RunWords.{delivery_fault_of, merged_trace, IsTaking, AreApart, Ended, RunFault, HasBrokenOff, Breaks, IsOffered, Cause, Other}
use Rattle.plinq_run.proofs.RunWords.{cause_of, is_close}
use Rattle.std.proofs.{Common.refl, Common.drop, lemmas.Fn.chained_keeps, lemmas.List.Elements.All-push, lemmas.List.Folds.list_any-from_Any}
use Rattle.plinq_source.specs.declared.memory.OutOfMemory.{OutOfMemory}
use Rattle.plinq_stream.specs.{declared.sent.Sent.Sent, Passes.knowledge_of}
use Rattle.plinq_stream.proofs.Under.{or-none}
use Rattle.plinq_merge.specs.declared.{merge_fault.MergeFault.TheVariants.Sink, more.More.More, joiner.Joiner.Joiner}
use Rattle.plinq_merge.specs.Joiners.{taker_of, order_of, ending_of, JoinsOffer}
use Rattle.plinq_merge.proofs.Joins.{AreOneMore, joined-cases, takes-joined, takes-broken, joined-stopped}
use Rattle.plinq_crew.specs.declared.{conducting.Returned.Returned, worker.Crew.Crew, worker.WorkerContext.WorkerContext}
use Rattle.plinq_crew.specs.Conducting.{AcceptsEach, Conducts, IsOfCrew, HasReturned}
use Rattle.plinq_crew.specs.{Polls.HasAccepted, Working.IsOfOne, Working.IsAnsweredBy, Working.IsWhollyAnsweredBy}
use Rattle.plinq_crew.proofs.{Working.answered-wholly, Polls.accepted-such}
use Rattle.plinq_run.specs.declared.accepting.{Merging.Merging, MergingInto.MergingInto}
use Rattle.plinq_run.specs.inner.Merged.{offer_fault, AcceptsAfter, AreSame, AcceptsInto, Stands, HasMerged}
use Rattle.plinq_run.specs.inner.{Conducted.HasRunCrew, Finishing.Finishes, Reported.cause_in_merge, FirstFault.AreSound}
use Rattle.plinq_run.proofs.Arrived.{apart-push}

-- a fault of the merge has the cause for which the taker broke off
breaks-by : (fault : MergeFault) (cause : Cause) → cause ≡ cause_in_merge (Some fault) → Breaks (Err (delivery_fault_of fault)) cause
breaks-by (Sink code) cause is = is
breaks-by fault cause is = is

module _ {W O T : Type 0} (made : W → O → Trace T → Result (Option Ending) DeliveryFault → W → O → Type 0) (lawful : IsTaking made)
    (IsPart : ChunkResult T → Type 0) (order : Order) (a : W) (x : O) where
  -- one part more, or none
  more-merged : (fault : Option MergeFault) (m : Merging W T) (y : O) (part : ChunkResult T) (offers offers' : List (ChunkResult T)) → m.fault ≡ fault
      → IsPart part → All IsPart offers → AreApart offers
      → AreOneMore offers part offers' → Stands made IsPart order a x fault m.joiner y offers' → HasMerged made IsPart order a x m y
  more-merged fault m y part offers offers' kept is are apart (inl same) stands =
      record { offers = offers'; are = rw same are; apart = rw same apart; stands = rw kept stands }
  more-merged fault m y part offers offers' kept is are apart (inr more) stands =
      record {
        offers = offers';
        are = rw more.0 (All-push IsPart offers part are is);
        apart = rw more.0 (apart-push offers part apart more.1);
        stands = rw kept stands;
      }

  -- a part was offered to a joiner that had no fault
  offered-by : (answer : Result More MergeFault) (m : Merging W T) (y : O) (part : ChunkResult T) (m' : Merging W T) (y' : O)
      → JoinsOffer made m.joiner part y answer m'.joiner y' → order_of m'.joiner ≡ order_of m.joiner → m'.fault ≡ offer_fault answer → IsPart part
      → (h : HasMerged made IsPart order a x m y) → Stands made IsPart order a x None m.joiner y h.offers → HasMerged made IsPart order a x m' y'
  offered-by (Ok more) m y part m' y' takes same kept is h stands =
      let on = takes-joined made a x lawful m.joiner part y more m'.joiner y' h.offers same stands.1 takes in
      more-merged None m' y' part h.offers on.0 kept is h.are h.apart on.1 (same ∙ stands.0, on.2)
  offered-by (Err fault) m y part m' y' takes same kept is h stands =
      let on = takes-broken made a x lawful m.joiner part y fault m'.joiner y' h.offers same stands.1 takes in
      let broke = subst (λ o. made a x (merged_trace o on.0) (Err (delivery_fault_of fault)) on.2.0 y') stands.0 on.2.1 in
      more-merged (Some fault) m' y' part h.offers on.0 kept is h.are h.apart on.1 (on.2.0, broke)

  accepted-by : (fault : Option MergeFault) (m : Merging W T) (y : O) (part : ChunkResult T) (m' : Merging W T) (y' : O) → m.fault ≡ fault
      → AcceptsAfter made fault m y part m' y' → IsPart part → HasMerged made IsPart order a x m y → HasMerged made IsPart order a x m' y'
  accepted-by None m y part m' y' sound accepts is h =
      offered-by accepts.answer m y part m' y' accepts.takes accepts.order accepts.kept is h (rw sound at h.stands)
  accepted-by (Some fault) m y part m' y' same accepts is h = rw (accepts.0, accepts.1) h

  -- all that were accepted
  accepted-all : (before : List (Sent (ChunkResult T))) (received : List (Sent (ChunkResult T))) (wants_close : Bool) (m m' : MergingInto W T O)
      → HasAccepted (AcceptsEach (AcceptsInto made) IsPart) before m received wants_close m' → HasMerged made IsPart order a x m.merging.now m.out.now
      → HasMerged made IsPart order a x m'.merging.now m'.out.now
  accepted-all before received wants_close m m' accepted h =
      chained_keeps (AcceptsEach (AcceptsInto made) IsPart) (λ xs z. HasMerged made IsPart order a x z.merging.now z.out.now)
      (λ xs z sent z' from step.
      let so = step.1 in
      accepted-by z.merging.now.fault z.merging.now z.out.now sent.item z'.merging.now z'.out.now refl so.accepts step.0 from)
      accepted.taken m m' h accepted.steps

  -- a run that ends before anything was offered
  pub none-broken : (fault : RunFault) → cause_of fault ≡ Other → HasBrokenOff made IsPart order a x fault x
  none-broken fault is =
      record {
        offers = [];
        are = All-nil IsPart;
        apart = tt;
        last = a;
        how = Err NoMemory;
        taken = lawful.stops a x [] a x (open_trace []) (lawful.begins a x);
        breaks = is;
      }

  broken-by : (fault : Option MergeFault) (m : Merging W T) (y : O) (run_fault : RunFault) → cause_of run_fault ≡ cause_in_merge fault
      → (offers : List (ChunkResult T)) → All IsPart offers → AreApart offers → Stands made IsPart order a x fault m.joiner y offers
      → HasBrokenOff made IsPart order a x run_fault y
  broken-by None m y run_fault is offers are apart stands =
      let last = taker_of m.joiner in
      let broken : (how : Result (Option Ending) DeliveryFault) → made a x (merged_trace order offers) how last y → Breaks how (cause_of run_fault)
      → HasBrokenOff made IsPart order a x run_fault y =
      λ how taken breaks. record { offers = offers; are = are; apart = apart; last = last; how = how; taken = taken; breaks = breaks } in
      joined-cases made a x m.joiner y offers stands.1
      (λ no gap waits before. broken (Err NoMemory) (rw stands.0 at (joined-stopped made a x lawful m.joiner y offers waits before)) is)
      (λ e yes ok all. broken (Ok (Some e)) (rw stands.0 at all) is)
  broken-by (Some fault) m y run_fault is offers are apart stands =
      record { offers = offers; are = are; apart = apart; last = stands.0; how = Err (delivery_fault_of fault); taken = stands.1; breaks = breaks-by _ _ is }

  -- where the joiner has ended the answer, its taker has taken all that was offered
  ended-by : (j : Joiner W T) (y : O) (e : Ending) (offers : List (ChunkResult T)) → Stands made IsPart order a x None j y offers → ending_of j ≡ Ok e
      → made a x (merged_trace order offers) (Ok (Some e)) (taker_of j) y
  ended-by j y e offers stands ending =
      joined-cases made a x j y offers stands.1
      (λ no gap waits before. absurd cc)
      (λ e' yes ok all. let same : e' ≡ e = cc in rw (stands.0, same) at all)

-- what was lent stays the same
pub conducts-same : {L S J P U W O T : Type 0} {source : SourceGhosts S U}
    (made : W → O → Trace T → Result (Option Ending) DeliveryFault → W → O → Type 0) (IsPart : ChunkResult T → Type 0)
    (crew : Crew L S J P U U T source) (context : WorkerContext S T U source)
    (m m' : MergingInto W T O) (result : Result (Returned S U source) OutOfMemory) → Conducts (AcceptsInto made) IsPart crew context m m' result → AreSame m m'
conducts-same made IsPart crew context m m' (Ok back) h =
    let accepted = h.accepted in
    chained_keeps (AcceptsEach (AcceptsInto made) IsPart) (λ xs z. AreSame m z)
    (λ xs z sent z' at step. let so = step.1 in record { merging = so.same.merging ∙ at.merging; out = so.same.out ∙ at.out }) accepted.taken m m'
    (record { merging = refl; out = refl }) accepted.steps
conducts-same made IsPart crew context m m' (Err fault) h = record { merging = ap (λ x. x.merging.ghost_name) h; out = ap (λ x. x.out.ghost_name) h }

-- ---- what is reported

-- Where it is reported how the answer ended, no worker had a fault and none was missing. So the source was closed, what was accepted is of the
-- chunks of the records, and all that was sent was received
module _ {L S J P U W O T : Type 0} {source : SourceGhosts S U} {m : Merging W T} {back : Returned S U source} {y : O}
    (made : W → O → Trace T → Result (Option Ending) DeliveryFault → W → O → Type 0) (lawful : IsTaking made) (IsPart : ChunkResult T → Type 0)
    (crew : Crew L S J P U U T source) (context : WorkerContext S T U source) (a : W) (x : O)
    (first last : MergingInto W T O) (out : first.out.now ≡ x) (same : (last.merging.now ≡ m) × (last.out.now ≡ y))
    (new : Stands made IsPart crew.plan.now.order a x None first.merging.now.joiner x []) (sound : first.merging.now.fault ≡ None) where
  -- what was accepted was merged, and is of the crew's chunks where no worker was missing
  crew-merged : HasReturned (AcceptsInto made) IsPart crew context first last back → HasMerged made (IsOfCrew back IsPart) crew.plan.now.order a x m y
  crew-merged h =
      let P = IsOfCrew back IsPart in
      let order = crew.plan.now.order in
      let begun : HasMerged made P order a x first.merging.now first.out.now =
      record { offers = []; are = All-nil P; apart = tt; stands = rw (sound, out) new } in
      let such =
      accepted-such (AcceptsEach (AcceptsInto made) IsPart) (AcceptsEach (AcceptsInto made) P)
      (λ sent. back.worker_count.started ≡ back.worker_count.wanted → IsOfOne (all_shares back.partitions.items) sent.item)
      (λ z sent z' of step. ((step.0, of), step.1)) first (knowledge_of h.pass).received h.wants_close last h.each h.accepted in
      let all = accepted-all made lawful P order a x [] (knowledge_of h.pass).received h.wants_close first last such begun in
      subst (λ n. HasMerged made P order a x n y) same.0 (subst (HasMerged made P order a x last.merging.now) same.1 all)

  -- the answer has ended so, or it was broken off
  pub reported-run : (r : Result (Ended S W U source) RunFault) → Finishes m back r → HasReturned (AcceptsInto made) IsPart crew context first last back
      → HasRunCrew made IsPart crew context a x r y
  reported-run (Ok ended) f h =
      let order = crew.plan.now.order in
      let all = crew-merged h in
      let stands = subst (λ fault. Stands made IsPart order a x fault m.joiner y all.offers) f.none all.stands in
      let complete : AreSound back.worker_faults back.worker_count = f.sound in
      let none = or-none back.worker_faults.memory back.worker_faults.tickets complete.memory complete.tickets in
      let (k, entry, less, at, asked) = h.closed none in
      rw f.partitions (record {
        shared = record {
          some = h.some;
          of = h.of;
          origin = h.origin;
          closed = list_any-from_Any (λ (r : Record). is_close r.asked) (all_shares back.partitions.items) (k, entry, less, at, ap is_close asked);
        };
        started = (omega (arith, h.started, h.wanted.0, complete.started), omega (arith, h.started, h.wanted.1, complete.started));
        pass = h.pass;
        of_stream = h.of_stream;
        all = h.all;
        answered = All-weaker (IsAnsweredBy 0 (knowledge_of h.pass) back.worker_faults) (IsWhollyAnsweredBy (knowledge_of h.pass))
            (answered-wholly (knowledge_of h.pass) (knowledge_of h.pass) back.worker_faults refl refl none) (drop 1 back.partitions.items) h.answered;
        accepted = record {
          first = first;
          new = new;
          sound = sound;
          last = last;
          still = ap (λ n. n.fault) same.0 ∙ f.none;
          ending = ap (λ n. ending_of n.joiner) same.0 ∙ f.ending;
          taker = f.taker ∙ ap (λ n. taker_of n.joiner) (sym same.0);
          out = (out, same.1);
          wants_close = h.wants_close;
          taken = h.accepted;
        };
        taken = record {
          offers = all.offers;
          are = All-weaker (IsOfCrew back IsPart) (IsOffered IsPart (all_shares back.partitions.items)) (λ c is. (is.0, is.1 complete.started))
              all.offers all.are;
          apart = all.apart;
          taken = rw f.taker (ended-by made lawful IsPart order a x m.joiner y ended.joined.ending all.offers stands f.ending);
        };
      })
  reported-run (Err fault) f h =
      let all = crew-merged h in
      broken-by made lawful IsPart crew.plan.now.order a x m.fault m y fault f.err all.offers
      (All-weaker (IsOfCrew back IsPart) IsPart (λ c is. is.0) all.offers all.are) all.apart all.stands
