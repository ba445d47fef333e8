-- Rows of crews: what polls may leave, what may be accepted, who is started and what comes back, and what not.
use Rattle.std.specs.Prelude.{◌≡◌, refl, ℕ, ◌+◌, ◌≤◌, ◌^◌, List, [], ◌∷◌, ◌++◌, length, get_or, All, drop}
use Rattle.std.specs.Prelude.{None, Ok, Err, Bool, true, false, vec_capacity}
use Rattle.std.specs.Global.{Vec}
use Rattle.std.specs.declared.thread.PromisedHandle.{PromisedHandle}
use Rattle.std.proofs.Common.{arith, ap, sym, ◌∙◌, subst}
use Rattle.std.proofs.lemmas.List.{length-append}
use Rattle.std.proofs.lemmas.List.Elements.{All-head}
use Rattle.std.specs.List.{FoldsTo}
use Rattle.plinq_source.specs.declared.memory.OutOfMemory.{OutOfMemory}
use Rattle.plinq_source.specs.declared.source.Source.{Ghosts}
use Rattle.plinq_lambda.specs.Meaning.{Meaning}
use Rattle.plinq_keyed.specs.Keys.{is_among}
use Rattle.plinq_cut.specs.declared.cut_pass.CutPass.{CutPass}
use Rattle.plinq_cut.specs.declared.cut_word.CutWord.{CutWord}
use Rattle.plinq_cut.specs.Passes.{IsPassOf as IsCutPassOf}
use Rattle.plinq_ops.specs.declared.plan.Plan.{Plan}
use Rattle.plinq_ops.specs.declared.results.ChunkResult.{ChunkResult}
use Rattle.plinq_ops.specs.Cut.{stop_keys}
use Rattle.plinq_partition.specs.GivenBack.{common_origin}
use Rattle.plinq_partition.specs.Partitions.{IsPartitionOf, all_shares, holding_of}
use Rattle.plinq_partition.specs.declared.chunked.Chunked.{Chunked}
use Rattle.plinq_partition.specs.declared.partition.Partition.{Partition}
use Rattle.plinq_partition.specs.declared.take_fault.TakeFault.TheVariants.{Memory, Spent, Busy, Incomplete, Away}
use Rattle.plinq_stream.specs.declared.pass_knowledge.PassKnowledge.{PassKnowledge}
use Rattle.plinq_stream.specs.declared.sent.Sent.{Sent}
use Rattle.plinq_stream.specs.declared.stream.Stream.{Stream}
use Rattle.plinq_stream.specs.declared.stream_pass.StreamPass.{StreamPass}
use Rattle.plinq_stream.specs.Knowing.{with_received}
use Rattle.plinq_stream.specs.Passes.{IsPassOf, knowledge_of}
use Rattle.plinq_stream.specs.Streams.{HasReceivedAll, has, under}
use Rattle.plinq_crew.specs.declared.closing.Closing.TheVariants.{Open, Wanted, Closed}
use Rattle.plinq_crew.specs.declared.coordinator.Coordinator.{Coordinator}
use Rattle.plinq_crew.specs.declared.conducting.Returned.{Returned}
use Rattle.plinq_crew.specs.declared.handle.WorkerPromise.{WorkerPromise}
use Rattle.plinq_crew.specs.declared.poll.Poll.TheVariants.{Came, Nothing, Over}
use Rattle.plinq_crew.specs.declared.starting.Team.{Team}
use Rattle.plinq_crew.specs.declared.starting.WorkerFaults.{WorkerFaults}
use Rattle.plinq_crew.specs.declared.worker.Crew.{Crew}
use Rattle.plinq_crew.specs.declared.worker.Equipment.{Equipment}
use Rattle.plinq_crew.specs.declared.worker.Worked.{Worked}
use Rattle.plinq_crew.specs.declared.worker.WorkerContext.{WorkerContext}
use Rattle.plinq_crew.specs.declared.worker_count.WorkerCount.{WorkerCount}
use Rattle.plinq_crew.specs.inner.Closing.{wants_close, is_closed, StaysClosed}
use Rattle.plinq_crew.specs.Conducting.{AcceptsEach, IsOfCrew, HasReturned, Conducts}
use Rattle.plinq_crew.specs.Equipped.{IsEquipped, IsReady}
use Rattle.plinq_crew.specs.inner.Handles.{IsHandleOf, AreNumbered}
use Rattle.plinq_crew.specs.inner.Coordinating.{IsCoordinator, StaysSame, ClosesInTime, ClosesAtLast, CanStart, AcceptsOn, AcceptsMore, AcceptsRest}
use Rattle.plinq_crew.specs.inner.Joining.{MayJoin, HasJoined}
use Rattle.plinq_crew.specs.inner.Scoped.{MayStartScope, ScopeReturns, MayWork, WorkReturns}
use Rattle.plinq_crew.specs.inner.Taking.{MayTakeNext}
use Rattle.plinq_crew.specs.inner.Teams.{IsTeam}
use Rattle.plinq_crew.specs.Noted.{lacks_room, has_noted, has_worker_fault, StaysNoted}
use Rattle.plinq_crew.specs.Polls.{IfCame, HasCome, HasAccepted}
use Rattle.plinq_crew.specs.Results.{IsPart}
use Rattle.plinq_crew.specs.Working.{HasClosed, IsOfOne, IsAnsweredBy, IsBack, IsNewcomer, receiver_from}
use Rattle.plinq_crew.specs.WorkerRows.{sent_under}

-- ---- what a poll notes, and when it closes

abbrev noted : WorkerFaults
noted = record { memory = true; tickets = false }

abbrev nothing_noted : WorkerFaults
nothing_noted = record { memory = false; tickets = false }

memory_is_noted : has_noted noted Memory ≡ true
memory_is_noted = refl

-- a fault of tickets is no fault of memory
tickets_arent_noted : has_noted noted Spent ≡ false
tickets_arent_noted = refl

memory_is_room : lacks_room Memory ≡ true
memory_is_room = refl

tickets_are_no_room : lacks_room Spent ≡ false
tickets_are_no_room = refl

others_first_are_no_room : lacks_room (Busy 3 4) ≡ false
others_first_are_no_room = refl

a_missing_record_is_no_room : lacks_room (Incomplete 3 4) ≡ false
a_missing_record_is_no_room = refl

a_pass_away_is_no_room : lacks_room Away ≡ false
a_pass_away_is_no_room = refl

forgotten : StaysNoted noted (record { memory = false; tickets = true }) → ⊥
forgotten stays = let same = stays.0 refl in absurd (cc)

abbrev tickets_noted : WorkerFaults
tickets_noted = record { memory = false; tickets = true }

forgotten_tickets : StaysNoted tickets_noted noted → ⊥
forgotten_tickets stays = let same = stays.1 refl in absurd (cc)

one_fault_is_one : has_worker_fault noted ≡ true
one_fault_is_one = refl

tickets_are_a_fault : has_worker_fault tickets_noted ≡ true
tickets_are_a_fault = refl

no_fault_is_none : has_worker_fault nothing_noted ≡ false
no_fault_is_none = refl

module _ {S T M : Type 0} {source : Ghosts S T} (c c' : Coordinator S M T source) where
  -- a poll that says it has closed the source has one record more
  closed_without_a_record : (holding_of c'.partition).share ≡ (holding_of c.partition).share → ClosesInTime true Open c Closed c' → ⊥
  closed_without_a_record same closes =
      let stopped = closes.closed refl refl in
      omega (arith, ap length same, ap length stopped.adds.share, length-append (holding_of c.partition).share (stopped.entry ∷ []))

  -- where all is over and no fault stands noted, the source is closed
  over_and_unclosed : has_worker_fault c'.worker_faults ≡ false → ClosesInTime true Open c Wanted c' → ⊥
  over_and_unclosed none closes = let noted = closes.over refl refl in absurd (cc)

  -- where it isn't closed yet, no record was added
  unclosed_with_a_record : length (holding_of c'.partition).share ≡ length (holding_of c.partition).share + 1
      → ClosesInTime false Open c Open c' → ⊥
  unclosed_with_a_record one closes = omega (arith, one, ap (λ h. length h.share) (closes.unclosed refl))

  -- where all is over, it is to be closed
  over_and_open : ClosesInTime true Open c Open c' → ⊥
  over_and_open closes = let same = closes.wanted refl refl in absurd (cc)

  -- one that has closed it doesn't say that it hasn't
  closed_and_forgotten : ClosesInTime true Closed c Open c' → ⊥
  closed_and_forgotten closes = let same = ap is_closed (closes.once refl) in absurd (cc)

  -- and once it was to be closed it stays so
  wanted_and_forgotten : ClosesInTime false Wanted c Open c' → ⊥
  wanted_and_forgotten closes = let same = closes.drops refl in absurd (cc)

  -- and a fault that was noted stays noted
  closed_and_unnoted : c.worker_faults.memory ≡ true → c'.worker_faults.memory ≡ false → ClosesInTime true Open c Closed c' → ⊥
  closed_and_unnoted noted none closes = let same = closes.kept.0 noted in absurd (cc)

  -- at last nobody has closed it, though no fault stands noted
  unclosed_at_last : has_worker_fault c'.worker_faults ≡ false → (holding_of c'.partition).share ≡ [] → ClosesAtLast Open c c' → ⊥
  unclosed_at_last none empty closes =
      let (k, r, less, at, is) = closes.closed (λ is. absurd (cc)) none in
      omega (arith, less, ap length empty)

  -- at last it is closed once more
  closed_again_at_last : length (holding_of c'.partition).share ≡ length (holding_of c.partition).share + 1 → ClosesAtLast Closed c c' → ⊥
  closed_again_at_last one closes = omega (arith, one, ap (λ c. length (holding_of c.partition).share) (closes.once refl))

  -- at last it is said to be closed, and no record of that is there
  closed_without_a_record_at_last : has_worker_fault c'.worker_faults ≡ false
      → (holding_of c'.partition).share ≡ (holding_of c.partition).share → ClosesAtLast Open c c' → ⊥
  closed_without_a_record_at_last none same closes =
      let stopped = closes.stopped refl none in
      omega (arith, ap length same, ap length stopped.adds.share, length-append (holding_of c.partition).share (stopped.entry ∷ []))

-- where it is closed or to be closed, what comes is dropped
closed_drops : wants_close Closed ≡ true
closed_drops = refl

wanted_drops : wants_close Wanted ≡ true
wanted_drops = refl

open_drops_nothing : wants_close Open ≡ false
open_drops_nothing = refl

wanted_is_unclosed : is_closed Wanted ≡ false
wanted_is_unclosed = refl

-- where a poll has closed it, there is a record of that
closed_unrecorded : StaysClosed Open [] Closed [] → ⊥
closed_unrecorded stays = let (k, r, less, at, is) = stays (λ is. absurd (cc)) refl in omega (arith, less)

unclosed_unrecorded : StaysClosed Open [] Wanted []
unclosed_unrecorded had is = absurd (cc)

-- ---- what came

module _ (made : ChunkResult ℕ) where
  -- what came is asked of, and nothing where none came
  came_otherwise : IfCame (Came made) (λ _. ⊥) → ⊥
  came_otherwise never = never

  none_came : IfCame {M = ℕ} Over (λ _. ⊥)
  none_came = tt

  -- what came was received
  came_as_it_was_sent : HasCome (receiver_from 0) (Came made) (with_received (receiver_from 0) (sent_under 3 made))
  came_as_it_was_sent = (sent_under 3 made, refl, refl)

  came_unreceived : HasCome (receiver_from 0) (Came made) (receiver_from 0) → ⊥
  came_unreceived (s, item, received) = omega (arith, ap (λ a. length a.received) received)

  came_as_another : (other : ChunkResult ℕ) → made.first ≡ 4 → other.first ≡ 5
      → HasCome (receiver_from 0) (Came made) (with_received (receiver_from 0) (sent_under 3 other)) → ⊥
  came_as_another other four five (s, item, received) =
      let same : other.first ≡ s.item.first = ap (λ a. (get_or a.received 0 s).item.first) received in
      omega (arith, four, five, same, ap (λ c. c.first) item)

  -- and where nothing came nothing was
  received_unasked : HasCome (receiver_from 0) (Nothing None) (with_received (receiver_from 0) (sent_under 3 made)) → ⊥
  received_unasked received = omega (arith, ap (λ a. length a.received) received)

  received_after_all : HasCome (receiver_from 0) Over (with_received (receiver_from 0) (sent_under 3 made)) → ⊥
  received_after_all received = omega (arith, ap (λ a. length a.received) received)

-- ---- what was accepted of what came

abbrev Adds : ℕ → ℕ → ℕ → Type 0
Adds y x y' = y' ≡ y + x

all_of_two : HasAccepted Adds [] 0 (3 ∷ 4 ∷ []) false 7
all_of_two = record { taken = 3 ∷ 4 ∷ []; left = []; came = refl; steps = (3, refl, (7, refl, refl)); all = λ _. refl }

-- where the source is to be closed the last ones may be left
one_of_two : HasAccepted Adds [] 0 (3 ∷ 4 ∷ []) true 3
one_of_two = record { taken = 3 ∷ []; left = 4 ∷ []; came = refl; steps = (3, refl, refl); all = λ same. absurd (cc) }

-- and else none
one_is_left : HasAccepted Adds [] 0 (3 ∷ []) false 0 → ⊥
one_is_left accepted = all_taken accepted.taken accepted.left accepted.came accepted.steps (accepted.all refl)
  where
    all_taken : (taken left : List ℕ) → 3 ∷ [] ≡ taken ++ left → FoldsTo Adds 0 taken 0 → left ≡ [] → ⊥
    all_taken [] left came steps none = omega (arith, ap length came, ap length none)
    all_taken (x ∷ xs) left came (y, is, steps) none =
        let three : 3 ≡ x = ap (λ ys. get_or ys 0 0) came in omega (arith, three, is, grows y xs 0 steps)
      where
        grows : (y : ℕ) (xs : List ℕ) (z : ℕ) → FoldsTo Adds y xs z → y ≤ z
        grows y [] z steps = omega (arith, steps)
        grows y (x ∷ xs) z (m, is, steps) = omega (arith, is, grows m xs z steps)

-- a consumer that counts the items of the parts that it accepts, and gets those of the first key alone
abbrev counts : ℕ → ChunkResult ℕ → ℕ → Type 0
counts x c x' = x' ≡ x + c.count

abbrev is_first : ChunkResult ℕ → Type 0
is_first c = c.first ≡ 0

module _ (s : Sent (ChunkResult ℕ)) where
  accepts_the_first : s.item.first ≡ 0 → s.item.count ≡ 2 → AcceptsEach counts is_first 3 s 5
  accepts_the_first first count = (first, rw count refl)

  accepts_another : s.item.first ≡ 1 → AcceptsEach counts is_first 3 s 5 → ⊥
  accepts_another first accepts = omega (arith, first, accepts.0)

  accepts_without_counting : s.item.count ≡ 2 → AcceptsEach counts is_first 3 s 3 → ⊥
  accepts_without_counting count accepts = omega (arith, count, accepts.1)

  -- of one that came more, where none is to be dropped, all is accepted
  one_more_is_left : s.item.count ≡ 2 → AcceptsOn counts is_first [] false 3 (s ∷ []) false 3 → ⊥
  one_more_is_left count on =
      let accepted = on [] 3 (record { taken = []; left = []; came = refl; steps = refl; all = λ _. refl }) in
      all_taken accepted.taken accepted.left accepted.came accepted.steps (accepted.all refl)
    where
      all_taken : (taken left : List (Sent (ChunkResult ℕ))) → s ∷ [] ≡ taken ++ left → FoldsTo (AcceptsEach counts is_first) 3 taken 3
          → left ≡ [] → ⊥
      all_taken [] left came steps none = omega (arith, ap length came, ap length none)
      all_taken (t ∷ []) left came (y, is, steps) none =
          let two : 2 ≡ t.item.count = sym count ∙ ap (λ ts. (get_or ts 0 s).item.count) came in omega (arith, two, is.1, steps)
      all_taken (t ∷ u ∷ ts) left came steps none = omega (arith, ap length came)

-- ---- who may be started

module _ {L S T M E : Type 0} {source : Ghosts S T} (meaning : L → Meaning T) (makes : ChunkResult T → ChunkResult M → Type 0)
    (MaySend : ChunkResult M → Type 0) (stops_at : ℕ → Bool) (plan : Plan L) (chunked : Chunked S T source) (cut : CutWord E)
    (partition : Partition S T source) (pass : CutPass) where
  abbrev HasAll : Type 0
  HasAll = IsEquipped meaning makes MaySend stops_at plan chunked cut partition pass

  equipped_for_another_source : (IsPartitionOf chunked partition → ⊥) → HasAll → ⊥
  equipped_for_another_source never has_all = never has_all.of

  equipped_for_too_many : length (holding_of partition).origin.items ≡ 2 ^ 40 + 1 → HasAll → ⊥
  equipped_for_too_many many has_all = omega (arith, many, has_all.few)

  equipped_for_a_decided_plan : plan.decided ≡ true → HasAll → ⊥
  equipped_for_a_decided_plan decided has_all = let undecided = has_all.undecided.undecided in absurd (cc)

  -- a part that may not be sent, and what may be sent and is no part
  equipped_with_a_part_refused : (c : ChunkResult M) → IsPart meaning makes plan (holding_of partition).origin c → (MaySend c → ⊥)
      → HasAll → ⊥
  equipped_with_a_part_refused c part never has_all = never (has_all.parts c part)

  equipped_with_no_part : (c : ChunkResult M) → MaySend c → (IsPart meaning makes plan (holding_of partition).origin c → ⊥)
      → HasAll → ⊥
  equipped_with_no_part c sent never has_all = never (has_all.sent c sent)

  equipped_with_another_cut : (IsCutPassOf cut pass → ⊥) → HasAll → ⊥
  equipped_with_another_cut never has_all = never has_all.sees

  equipped_to_stop_elsewhere : stops_at 4 ≡ true
      → is_among (stop_keys meaning plan.worker.now 0 (holding_of partition).origin.items) 4 ≡ false → HasAll → ⊥
  equipped_to_stop_elsewhere stops none has_all = let same = has_all.stop_keys 4 in absurd (cc)

module _ {L S J P T M : Type 0} {source : Ghosts S T} (meaning : L → Meaning T)
    (makes : P → ChunkResult T → ChunkResult M → Type 0) (MaySend : ChunkResult M → Type 0) (stops_at : ℕ → Bool)
    (crew : Crew L S J P T T M source) (context : WorkerContext S M T source) where
  abbrev MayBegin : Type 0
  MayBegin = IsReady meaning makes MaySend stops_at crew context

  no_workers : crew.workers ≡ 0 → MayBegin → ⊥
  no_workers none ready = omega (arith, none, ready.workers.0)

  too_many_workers : crew.workers ≡ 65 → MayBegin → ⊥
  too_many_workers many ready = omega (arith, many, ready.workers.1)

  ready_in_another_stream : (IsPassOf crew.stream.now context.stream → ⊥) → MayBegin → ⊥
  ready_in_another_stream never ready = never ready.stream_of

  -- a number was handed out already
  ready_with_a_worker : knowledge_of context.stream ≡ receiver_from 1 → MayBegin → ⊥
  ready_with_a_worker knows ready =
      let bad : 1 ≡ 0 = ap (λ a. get_or a.numbers 0 9) (sym knows ∙ ready.knows) in
      omega (arith, bad)

  ready_for_a_decided_plan : crew.plan.now.decided ≡ true → MayBegin → ⊥
  ready_for_a_decided_plan decided ready = let undecided = ready.equipped.undecided.undecided in absurd (cc)

module _ {L S J P R T M : Type 0} {source : Ghosts S T} (meaning : L → Meaning T)
    (makes : P → ChunkResult T → ChunkResult M → Type 0) (MaySend : ChunkResult M → Type 0) (stops_at : ℕ → Bool)
    (e : Equipment L S J P R T T M source) (is_ready : ℕ → Type 0) where
  abbrev MayStart : Type 0
  MayStart = MayStartScope meaning makes MaySend stops_at is_ready e 3

  scope_without_workers : e.crew.now.workers ≡ 0 → MayStart → ⊥
  scope_without_workers none may = omega (arith, none, may.ready.workers.0)

  scope_for_an_idle_consumer : (is_ready 3 → ⊥) → MayStart → ⊥
  scope_for_an_idle_consumer never may = never may.consumer

-- ---- who was started, and what comes back

module _ {S T M C : Type 0} {source : Ghosts S T} (chunked : Chunked S T source) (stream : Stream (ChunkResult M) C)
    (handle next : PromisedHandle (Worked S M T source) (WorkerPromise S M T source)) where
  handle_of_another_source : (handle.promise.chunked.value ≡ chunked → ⊥) → IsHandleOf chunked stream handle → ⊥
  handle_of_another_source never is = never is.0

  handle_of_another_stream : (IsPassOf stream handle.promise.given.value → ⊥) → IsHandleOf chunked stream handle → ⊥
  handle_of_another_stream never is = never is.1

  numbered_in_turn : handle.promise.number ≡ 0 → next.promise.number ≡ 1 → AreNumbered 0 (handle ∷ next ∷ [])
  numbered_in_turn zero one = (zero, (one, tt))

  numbered_from_another : handle.promise.number ≡ 1 → AreNumbered 0 (handle ∷ []) → ⊥
  numbered_from_another one are = omega (arith, one, are.0)

  numbered_alike : next.promise.number ≡ 0 → AreNumbered 0 (handle ∷ next ∷ []) → ⊥
  numbered_alike zero are = omega (arith, zero, are.1.0)

module _ {S T M C : Type 0} {source : Ghosts S T} (chunked : Chunked S T source) (stream : Stream (ChunkResult M) C)
    (team : Team S M T source) (count : WorkerCount)
    (handle : PromisedHandle (Worked S M T source) (WorkerPromise S M T source)) where
  abbrev AreFour : Type 0
  AreFour = IsTeam chunked stream 4 count team

  more_than_were_wanted : IsTeam chunked stream 4 (record { wanted = 1; started = 2 }) team → ⊥
  more_than_were_wanted is = omega (arith, is.asked)

  more_wanted_than_asked_for : IsTeam chunked stream 4 (record { wanted = 5; started = 2 }) team → ⊥
  more_wanted_than_asked_for is = omega (arith, is.within)

  -- one that was started isn't counted
  not_counted : count.started ≡ 1 → length team.handles.items ≡ 2 → AreFour → ⊥
  not_counted one two is = omega (arith, one, two, is.started)

  no_room_for_all : vec_capacity team.handles ≡ 3 → AreFour → ⊥
  no_room_for_all three is = omega (arith, three, is.room)

  -- one that was started brings back what belongs to another source, or has another's number
  one_of_another_source : team.handles.items ≡ handle ∷ [] → (IsHandleOf chunked stream handle → ⊥) → AreFour → ⊥
  one_of_another_source one never is =
      never (All-head (IsHandleOf chunked stream) handle [] (subst (λ hs. All (IsHandleOf chunked stream) hs) one is.handles))

  one_numbered_from_another : team.handles.items ≡ handle ∷ [] → handle.promise.number ≡ 1 → AreFour → ⊥
  one_numbered_from_another one number is =
      let numbered : AreNumbered 0 (handle ∷ []) = subst (λ hs. AreNumbered 0 hs) one is.numbered in
      omega (arith, number, numbered.0)

module _ {S T M C : Type 0} {source : Ghosts S T} (chunked : Chunked S T source) (stream : Stream (ChunkResult M) C)
    (c c' : Coordinator S M T source) where
  coordinator_of_another_source : (IsPartitionOf chunked c.partition → ⊥) → IsCoordinator chunked stream c → ⊥
  coordinator_of_another_source never is = never is.of

  -- who accepts starts nobody
  started_meanwhile : c.worker_count.started ≡ 1 → c'.worker_count.started ≡ 2 → StaysSame c c' → ⊥
  started_meanwhile one two same = omega (arith, one, two, ap (λ (w : WorkerCount). w.started) same.worker_count)

module _ {S T M C X : Type 0} {source : Ghosts S T} (is_ready : X → Type 0) (accepts : X → ChunkResult M → X → Type 0)
    (IsPart : ChunkResult M → Type 0) (stream : Stream (ChunkResult M) C) (c c' : Coordinator S M T source) (x x' : X) where
  -- a consumer can accept no more
  accepts_no_more : (is_ready x' → ⊥) → AcceptsMore is_ready accepts IsPart c Open x c' Open x' → ⊥
  accepts_no_more never more = never more.ready

  -- the source was closed since, and there is no record of that
  closed_unrecorded_since : (holding_of c'.partition).share ≡ [] → AcceptsMore is_ready accepts IsPart c Open x c' Closed x' → ⊥
  closed_unrecorded_since empty more =
      let (k, r, less, at, is) = more.closed (λ is. absurd (cc)) refl in
      omega (arith, less, ap length empty)

  -- at last something that was sent wasn't received
  rest_is_left : (p p' : StreamPass (ChunkResult M)) → (HasReceivedAll (knowledge_of p') → ⊥)
      → AcceptsRest accepts IsPart stream Open p x p' x' → ⊥
  rest_is_left p p' never rest = never rest.all

module _ {L S J P T M : Type 0} {source : Ghosts S T} (meaning : L → Meaning T)
    (makes : P → ChunkResult T → ChunkResult M → Type 0) (MaySend : ChunkResult M → Type 0) (stops_at : ℕ → Bool)
    (crew : Crew L S J P T T M source) (c : Coordinator S M T source) (team : Team S M T source) where
  starts_for_nobody : crew.workers ≡ 0 → CanStart meaning makes MaySend stops_at crew c team → ⊥
  starts_for_nobody none can = omega (arith, none, can.workers.0)

-- ---- who is joined, and who takes a chunk

module _ {L S J P T M : Type 0} {source : Ghosts S T} (crew : Crew L S J P T T M source) (first : Partition S T source)
    (p p' : StreamPass (ChunkResult M)) (handle : PromisedHandle (Worked S M T source) (WorkerPromise S M T source))
    (faults faults' : WorkerFaults) where
  no_room_for_the_first : (room : Vec (Partition S T source)) → vec_capacity room ≡ 1 → MayJoin crew first p (handle ∷ []) room → ⊥
  no_room_for_the_first room one may = omega (arith, one, may.room)

  joins_into_others : (room : Vec (Partition S T source)) → room.items ≡ first ∷ [] → MayJoin crew first p [] room → ⊥
  joins_into_others room one may = omega (arith, ap length one, ap length may.empty)

  -- one that was started doesn't come back, or a fault that was noted before is forgotten
  one_is_not_joined : HasJoined crew first p (handle ∷ []) faults 0 p' faults' (first ∷ []) → ⊥
  one_is_not_joined joined = omega (arith, joined.count)

  joined_and_forgotten : (back : Partition S T source) → faults.memory ≡ true → faults'.memory ≡ false
      → HasJoined crew first p (handle ∷ []) faults 0 p' faults' (first ∷ back ∷ []) → ⊥
  joined_and_forgotten back noted none joined = let same = joined.kept.0 noted in absurd (cc)

  takes_of_too_many : (meaning : L → Meaning T) (stops_at : ℕ → Bool) (pass : CutPass) → length (holding_of first).origin.items ≡ 2 ^ 40 + 1
      → MayTakeNext meaning stops_at crew first pass → ⊥
  takes_of_too_many meaning stops_at pass many may = omega (arith, many, may.few)

module _ {L S J P R T M : Type 0} {source : Ghosts S T} (meaning : L → Meaning T)
    (makes : P → ChunkResult T → ChunkResult M → Type 0) (MaySend : ChunkResult M → Type 0) (stops_at : ℕ → Bool)
    (e : Equipment L S J P R T T M source) (worked : Worked S M T source) where
  work_of_one_not_new : (IsNewcomer e.crew.now.stream.now 3 e.context.partition e.context.stream → ⊥)
      → MayWork meaning makes MaySend stops_at e 3 → ⊥
  work_of_one_not_new never may = never may.new

  returns_another : (IsBack e.crew.now.chunked.now e.context.stream 3 worked → ⊥) → WorkReturns e 3 worked → ⊥
  returns_another never returns = never returns.back

module _ {L S J P T M X : Type 0} {source : Ghosts S T} (accepts : X → ChunkResult M → X → Type 0)
    (IsPart : ChunkResult M → Type 0) (crew : Crew L S J P T T M source) (context : WorkerContext S M T source) (x x' : X)
    (back : Returned S T source) where
  abbrev Returns : Type 0
  Returns = HasReturned accepts IsPart crew context x x' back

  no_worker_wanted : back.worker_count.wanted ≡ 0 → Returns → ⊥
  no_worker_wanted none returned = omega (arith, none, returned.wanted.0)

  more_workers_wanted : back.worker_count.wanted ≡ crew.workers + 1 → Returns → ⊥
  more_workers_wanted more returned = omega (arith, more, returned.wanted.1)

  -- a worker that was started doesn't come back
  one_is_missing : length back.partitions.items ≡ back.worker_count.started → Returns → ⊥
  one_is_missing missing returned = omega (arith, missing, returned.started)

  nobody_comes_back : back.partitions.items ≡ [] → Returns → ⊥
  nobody_comes_back none returned = omega (arith, ap length none, returned.some)

  -- a partition comes back of another source, or that another source was
  comes_from_another : (p : Partition S T source) → back.partitions.items ≡ p ∷ [] → (IsPartitionOf crew.chunked.now p → ⊥)
      → Returns → ⊥
  comes_from_another p one never returned =
      never
      (All-head (IsPartitionOf crew.chunked.now) p [] (subst (λ ps. All (IsPartitionOf crew.chunked.now) ps) one returned.of))

  hands_out_another : length (common_origin back.partitions.items).items ≡ 4
      → length (holding_of context.partition).origin.items ≡ 5 → Returns → ⊥
  hands_out_another four five returned = omega (arith, four, five, ap (λ t. length t.items) returned.origin)

  received_from_another : ((pass : StreamPass (ChunkResult M)) → IsPassOf crew.stream.now pass → ⊥) → Returns → ⊥
  received_from_another never returned = never returned.pass returned.of_stream

  -- a part was sent and not received
  one_is_lost : (c : ChunkResult M) → (returned : Returns) → has 0 (knowledge_of returned.pass).numbers ≡ true
      → under 0 (knowledge_of returned.pass).sent ≡ c ∷ [] → under 0 (knowledge_of returned.pass).received ≡ [] → ⊥
  one_is_lost c returned own one none = omega (arith, ap length one, ap length none, ap length (returned.all.own 0 own))

  -- a worker's records weren't answered
  abbrev IsAnswered : PassKnowledge (ChunkResult M) → Partition S T source → Type 0
  IsAnswered a p = IsAnsweredBy 0 a back.worker_faults p

  one_is_unanswered : (p q : Partition S T source) → back.partitions.items ≡ p ∷ q ∷ [] → (returned : Returns)
      → (IsAnswered (knowledge_of returned.pass) q → ⊥) → ⊥
  one_is_unanswered p q two returned never =
      never
      (All-head (IsAnswered (knowledge_of returned.pass)) q []
      (subst (λ ps. All (IsAnswered (knowledge_of returned.pass)) (drop 1 ps)) two returned.answered))

  -- a part was received under a number that no worker has
  one_from_nobody : (c : ChunkResult M) → (returned : Returns) → under 64 (knowledge_of returned.pass).received ≡ c ∷ [] → ⊥
  one_from_nobody c returned one = omega (arith, ap length one, ap length (returned.all.none 64 (omega arith)))

  -- or is of no worker's record
  one_of_no_record : (s : Sent (ChunkResult M)) → (returned : Returns) → back.worker_count.started ≡ back.worker_count.wanted
      → (knowledge_of returned.pass).received ≡ s ∷ [] → (IsOfOne (all_shares back.partitions.items) s.item → ⊥) → ⊥
  one_of_no_record s returned started one never =
      let IsOfSome : Sent (ChunkResult M) → Type 0 =
      λ x. back.worker_count.started ≡ back.worker_count.wanted → IsOfOne (all_shares back.partitions.items) x.item in
      never (All-head IsOfSome s [] (subst (All IsOfSome) one returned.each) started)

  -- what is of a crew is such a part
  no_part_of_a_crew : (c : ChunkResult M) → (IsPart c → ⊥) → IsOfCrew back IsPart c → ⊥
  no_part_of_a_crew c never of = never of.0

  -- and of a record of its workers, where all that were wanted were started
  of_no_record_of_a_crew : (c : ChunkResult M) → back.worker_count.started ≡ back.worker_count.wanted
      → (IsOfOne (all_shares back.partitions.items) c → ⊥) → IsOfCrew back IsPart c → ⊥
  of_no_record_of_a_crew c started never of = never (of.1 started)

  -- nobody has closed the source, though no fault was noted
  nobody_has_closed : has_worker_fault back.worker_faults ≡ false → (HasClosed (all_shares back.partitions.items) → ⊥) → Returns → ⊥
  nobody_has_closed none never returned = never (returned.closed none)

  -- a consumer is another, though nothing came
  changed_by_nothing : (returned : Returns) → (knowledge_of returned.pass).received ≡ [] → (x' ≡ x → ⊥) → ⊥
  changed_by_nothing returned none never =
      let came : [] ≡ returned.accepted.taken ++ returned.accepted.left = sym none ∙ returned.accepted.came in
      never (same returned.accepted.taken returned.accepted.left came returned.accepted.steps)
    where
      same : (taken left : List (Sent (ChunkResult M))) → [] ≡ taken ++ left → FoldsTo (AcceptsEach accepts IsPart) x taken x'
          → x' ≡ x
      same [] left came steps = sym steps
      same (s ∷ ss) left came steps = absurd (omega (arith, ap length came))

  -- the same, said of the whole
  conducts_nobody : back.partitions.items ≡ [] → Conducts accepts IsPart crew context x x' (Ok back) → ⊥
  conducts_nobody none returned = nobody_comes_back none returned

  -- without room nothing was accepted
  unchanged_without_room : (fault : OutOfMemory) → Conducts accepts IsPart crew context x x (Err fault)
  unchanged_without_room fault = refl

  changed_without_room : (fault : OutOfMemory) → (x' ≡ x → ⊥) → Conducts accepts IsPart crew context x x' (Err fault) → ⊥
  changed_without_room fault never same = never same

  scope_changed_without_room : {R : Type 0} (e : Equipment L S J P R T T M source) (fault : OutOfMemory) → (x' ≡ x → ⊥)
      → ScopeReturns accepts IsPart e x x' (Err fault) → ⊥
  scope_changed_without_room e fault never returns = never returns.conducts
