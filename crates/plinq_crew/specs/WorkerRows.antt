-- Rows of workers: what one may make of a chunk, send and bring back, and what not.
use Rattle.std.specs.Prelude.{◌≡◌, refl, ℕ, zero, suc, ◌<◌, pos, List, [], ◌∷◌, ◌++◌, length, get_or, take, drop, true, false}
use Rattle.std.specs.Prelude.{Option, Some, None, is_some, All, IfSome}
use Rattle.std.proofs.Common.{arith, ap, sym, ◌∙◌, subst}
use Rattle.std.proofs.lemmas.List.{length-append}
use Rattle.std.proofs.lemmas.List.Elements.{All-head, All-nil}
use Rattle.std.specs.List.{AllZip, list_any}
use Rattle.plinq_source.specs.declared.ending.Ending.TheVariants.{End}
use Rattle.plinq_source.specs.declared.source.Source.{Ghosts}
use Rattle.plinq_source.specs.Trace.{Trace, open_trace}
use Rattle.plinq_keyed.specs.declared.chunk.Chunk.{Chunk}
use Rattle.plinq_keyed.specs.declared.event.Event.TheVariants.{Ask}
use Rattle.plinq_keyed.specs.declared.record.Record.{Record}
use Rattle.plinq_keyed.specs.declared.tail.Tail.TheVariants.{Ended, Closed}
use Rattle.plinq_ops.specs.declared.frag_end.FragEnd.TheVariants.{More, End as EndsHere}
use Rattle.plinq_ops.specs.declared.op.Op.{Op}
use Rattle.plinq_ops.specs.declared.op.Op.TheVariants.{Select, Filter, Take}
use Rattle.plinq_ops.specs.declared.order.Order.TheVariants.{ByArrival}
use Rattle.plinq_ops.specs.declared.plan.Plan.{Plan}
use Rattle.plinq_ops.specs.declared.results.ChunkResult.{ChunkResult}
use Rattle.plinq_ops.specs.ByKey.{are_keyless, is_by_key}
use Rattle.plinq_ops.specs.Chunk.{chunk_answer}
use Rattle.plinq_ops.specs.Cut.{no_cut}
use Rattle.plinq_ops.specs.Feeding.{is_empty_take}
use Rattle.plinq_ops.specs.Operator.{example}
use Rattle.plinq_ops.specs.Tails.{end_of_result, told_at, EndsAt}
use Rattle.plinq_partition.specs.declared.chunked.Chunked.{Chunked}
use Rattle.plinq_partition.specs.declared.partition.Partition.{Partition}
use Rattle.plinq_partition.specs.declared.take_fault.TakeFault.{TakeFault}
use Rattle.plinq_partition.specs.declared.take_fault.TakeFault.TheVariants.{Memory}
use Rattle.plinq_partition.specs.Partitions.{IsPartitionOf, holding_of}
use Rattle.plinq_stream.specs.declared.pass_knowledge.PassKnowledge.{PassKnowledge}
use Rattle.plinq_stream.specs.declared.sent.Sent.{Sent}
use Rattle.plinq_stream.specs.declared.stream.Stream.{Stream}
use Rattle.plinq_stream.specs.declared.stream_pass.StreamPass.{StreamPass}
use Rattle.plinq_stream.specs.Passes.{IsPassOf, IsBeside, knowledge_of}
use Rattle.plinq_stream.specs.Streams.{has}
use Rattle.plinq_crew.specs.declared.starting.WorkerFaults.{WorkerFaults}
use Rattle.plinq_crew.specs.declared.worker.Worked.{Worked}
use Rattle.plinq_crew.specs.Noted.{has_noted}
use Rattle.plinq_crew.specs.Plans.{IsUndecided}
use Rattle.plinq_crew.specs.Results.{IsResult, IsOfSameChunk, IsMadeOf, IsPart}
use Rattle.plinq_crew.specs.Working.{HasClosed, HasLeft, Answers, IsOfOne, IsOpen, StopsAtTail, Stops, Follows, HasTakenChunk, IsAtWork, HasWorked}
use Rattle.plinq_crew.specs.Working.{sender, receiver_from, HasNumbersFrom, IsReceiver, IsNewcomer, IsBack, IsAnsweredBy, IsWhollyAnsweredBy}

-- ---- plans that need workers

module _ (plan : Plan ℕ) where
  all_selected : plan.worker.now ≡ Select 0 ∷ [] → plan.after.now ≡ [] → plan.decided ≡ false → IsUndecided plan
  all_selected worker after undecided = record {
    keyed = ap (λ ops. is_by_key ops) worker;
    worker = ap (λ ops. list_any is_empty_take ops) worker;
    after = ap (λ ops. list_any is_empty_take ops) after;
    undecided = undecided;
    keyless = λ _. ap (λ ops. are_keyless ops) worker;
  }

  -- nothing is taken, by the workers or after them
  none_taken : plan.worker.now ≡ Take (pos 0) ∷ [] → IsUndecided plan → ⊥
  none_taken is needs = let bad : true ≡ false = sym (ap (λ ops. list_any is_empty_take ops) is) ∙ needs.worker in absurd (cc)

  none_taken_after : plan.after.now ≡ Take (pos 0) ∷ [] → IsUndecided plan → ⊥
  none_taken_after is needs =
      let bad : true ≡ false = sym (ap (λ ops. list_any is_empty_take ops) is) ∙ needs.after in
      absurd (cc)

  decided_before : plan.decided ≡ true → IsUndecided plan → ⊥
  decided_before is needs = let same = needs.undecided in absurd (cc)

  -- after a filter no worker knows the positions that a Take asks for
  taken_after_a_filter : plan.worker.now ≡ Filter 0 ∷ Take (pos 2) ∷ [] → IsUndecided plan → ⊥
  taken_after_a_filter is needs = let bad : false ≡ true = sym (ap (λ ops. is_by_key ops) is) ∙ needs.keyed in absurd (cc)

  -- and by arrival none knows them
  taken_by_arrival : plan.order ≡ ByArrival → plan.worker.now ≡ Take (pos 2) ∷ [] → IsUndecided plan → ⊥
  taken_by_arrival by is needs = let bad : false ≡ true = sym (ap (λ ops. are_keyless ops) is) ∙ needs.keyless by in absurd (cc)

-- ---- what workers make of chunks

-- by a plan without operators, of a source that has this one item
abbrev one_item : Trace ℕ
one_item = open_trace (7 ∷ [])

module _ (plan : Plan ℕ) (r : ChunkResult ℕ) where
  abbrev IsOfOneItem : Type 0
  IsOfOneItem = IsResult (λ _. example) plan one_item r

  its_result : plan.worker.now ≡ [] → r.first ≡ 0 → r.count ≡ 1 → r.items.items ≡ 7 ∷ [] → r.ending ≡ More → r.stop ≡ None
      → r.tail ≡ None → (chunk : Chunk ℕ) → chunk.first ≡ 0 → chunk.items.items ≡ 7 ∷ [] → chunk.tail ≡ None → IsOfOneItem
  its_result worker first count items ending stop tail chunk chunk_first chunk_items chunk_tail = record {
    offer = record {
      cut = no_cut;
      chunk = chunk;
      is_cut = refl;
      within = rw (chunk_first, chunk_items) (omega arith);
      items = rw (chunk_first, chunk_items) refl;
      made = record {
        first = first ∙ sym chunk_first;
        count = rw (count, chunk_items) refl;
        items = rw (items, worker, chunk_first, chunk_items) refl;
        ending = rw (ending, worker, chunk_first, chunk_items) refl;
        stop = rw (stop, worker, chunk_first, chunk_items) refl;
        tail = tail ∙ sym chunk_tail;
      };
    };
    uncut = λ _. refl;
    tail = rw tail tt;
    within = rw (first, count) (omega arith);
  }

  another_item : plan.order ≡ ByArrival → plan.worker.now ≡ [] → r.first ≡ 0 → r.count ≡ 1 → r.items.items ≡ 9 ∷ []
      → IsOfOneItem → ⊥
  another_item by worker first count items is =
      let chunk = is.offer.chunk in
      let chunk_first : chunk.first ≡ 0 = sym is.offer.made.first ∙ first in
      let one : length chunk.items.items ≡ 1 = sym is.offer.made.count ∙ count in
      let own : chunk.items.items ≡ 7 ∷ [] = is.offer.items
      ∙ ap (λ n. take n (drop chunk.first one_item.items)) one
      ∙ ap (λ n. take 1 (drop n one_item.items)) chunk_first in
      let given : 9 ∷ [] ≡ 7 ∷ [] = sym items
      ∙ is.offer.made.items
      ∙ ap (λ ops. (chunk_answer (λ (f : ℕ). example) ops is.offer.cut chunk.first chunk.items.items).trace.items) worker
      ∙ ap (λ cut. (chunk_answer (λ (f : ℕ). example) [] cut chunk.first chunk.items.items).trace.items) (is.uncut by)
      ∙ ap (λ key. (chunk_answer (λ (f : ℕ). example) [] no_cut key chunk.items.items).trace.items) chunk_first
      ∙ ap (λ xs. (chunk_answer (λ (f : ℕ). example) [] no_cut 0 xs).trace.items) own in
      let same : 9 ≡ 7 = ap (λ xs. get_or xs 0 0) given in
      omega (arith, same)

  -- by arrival there is no cut
  cut_by_arrival : plan.order ≡ ByArrival → (is : IsOfOneItem) → is.offer.cut ≡ 0 → ⊥
  cut_by_arrival by is cut = omega (arith, is.uncut by, cut)

  -- the source had no end
  end_of_no_source : r.tail ≡ Some Ended → IsOfOneItem → ⊥
  end_of_no_source tail is =
      let ends : EndsAt one_item (end_of_result r, End) =
      subst (λ tail. IfSome (told_at (end_of_result r) tail) (EndsAt one_item)) tail is.tail in
      let bad : None ≡ Some End = ends.1 in
      absurd (cc)

  past_its_items : r.first ≡ 1 → r.count ≡ 1 → IsOfOneItem → ⊥
  past_its_items first count is = omega (arith, first, count, is.within)

module _ (r c : ChunkResult ℕ) where
  -- what is made of a result is of the same chunk
  of_another_chunk : r.first ≡ 4 → c.first ≡ 5 → IsOfSameChunk r c → ⊥
  of_another_chunk four five same = let first = same.first in absurd (cc)

  of_more_items : r.count ≡ 4 → c.count ≡ 5 → IsOfSameChunk r c → ⊥
  of_more_items four five same = let count = same.count in absurd (cc)

  with_another_ending : r.ending ≡ More → c.ending ≡ EndsHere → IsOfSameChunk r c → ⊥
  with_another_ending more ends same = let ending = same.ending in absurd (cc)

  stopped_elsewhere : r.stop ≡ None → c.stop ≡ Some 4 → IsOfSameChunk r c → ⊥
  stopped_elsewhere none four same = let stop = same.stop in absurd (cc)

  with_another_tail : r.tail ≡ None → c.tail ≡ Some Closed → IsOfSameChunk r c → ⊥
  with_another_tail none closed same = let tail = same.tail in absurd (cc)

module _ (worker : List (Op ℕ)) (plan : Plan ℕ) (makes : ChunkResult ℕ → ChunkResult ℕ → Type 0)
    (chunk : Chunk ℕ) (c : ChunkResult ℕ) where
  -- a chunk's part isn't made of another chunk
  made_of_another_chunk : chunk.first ≡ 4 → c.first ≡ 5 → IsMadeOf (λ _. example) makes worker no_cut chunk c → ⊥
  made_of_another_chunk four five made = omega (arith, four, five, made.same.first, made.is.first)

  -- nor of one that isn't the source's
  part_past_the_source : c.first ≡ 1 → c.count ≡ 1 → IsPart (λ _. example) makes plan one_item c → ⊥
  part_past_the_source first count part = omega (arith, first, count, part.same.first, part.same.count, part.is.within)

  -- where a task makes nothing, nothing was made
  made_of_nothing : IsMadeOf (λ _. example) (λ (_ _ : ChunkResult ℕ). ⊥) worker no_cut chunk c → ⊥
  made_of_nothing made = made.made

  part_of_nothing : IsPart (λ _. example) (λ (_ _ : ChunkResult ℕ). ⊥) plan one_item c → ⊥
  part_of_nothing part = part.made

-- ---- what a worker sends for its records

-- one item was handed out, and then the source was found closed
abbrev pub taken_one : Record
taken_one = record { ticket = 0; asked = Ask 1; first = 0; count = 1; tail = None }

abbrev found_closed : Record
found_closed = record { ticket = 1; asked = Ask 1; first = 1; count = 0; tail = Some Closed }

-- a result that says another key, count or tail than the record
answers_with_count : (r : ChunkResult ℕ) → r.count ≡ 2 → Answers taken_one r → ⊥
answers_with_count r two answers = let one = answers.count in absurd (cc)

answers_with_key : (r : ChunkResult ℕ) → r.first ≡ 1 → Answers taken_one r → ⊥
answers_with_key r one answers = let zero = answers.first in absurd (cc)

answers_with_tail : (r : ChunkResult ℕ) → r.tail ≡ None → Answers found_closed r → ⊥
answers_with_tail r none answers = let closed = answers.tail in absurd (cc)

-- a result is of one of some records, and of none where there are none, or only another's
of_no_record : (r : ChunkResult ℕ) → IsOfOne [] r → ⊥
of_no_record r (k, entry, less, at, is) = omega (arith, less)

of_its_record : (r : ChunkResult ℕ) → Answers taken_one r → IsOfOne (found_closed ∷ taken_one ∷ []) r
of_its_record r answers = (1, taken_one, omega arith, refl, answers)

-- a request for items doesn't close the source
closed_by_nobody : HasClosed [] → ⊥
closed_by_nobody (k, entry, less, at, is) = omega (arith, less)

closed_by_asking : HasClosed (taken_one ∷ []) → ⊥
closed_by_asking (k, entry, less, at, is) = only k less at
  where
    only : (k : ℕ) → k < 1 → get_or (taken_one ∷ []) k entry ≡ entry → ⊥
    only zero less at = let asked = ap (λ (r : Record). r.asked) at ∙ is in absurd (cc)
    only (suc k) less at = omega (arith, less)

-- more may come where there is no tail, and not after one
open_without_a_tail : (r : ChunkResult ℕ) → r.tail ≡ None → IsOpen r
open_without_a_tail r none = none

open_after_a_tail : (r : ChunkResult ℕ) → r.tail ≡ Some Closed → IsOpen r → ⊥
open_after_a_tail r closed open_ = absurd (cc)

-- the last has a tail
stops_at_its_tail : (r : ChunkResult ℕ) → r.tail ≡ Some Closed → StopsAtTail (r ∷ [])
stops_at_its_tail r closed = record { before = []; last = r; are = refl; opens = All-nil IsOpen; tail = rw closed refl }

stops_without_a_tail : (r : ChunkResult ℕ) → r.tail ≡ None → StopsAtTail (r ∷ []) → ⊥
stops_without_a_tail r none stops = never stops.before stops.last stops.are stops.tail
  where
    never : (before : List (ChunkResult ℕ)) (last : ChunkResult ℕ) → r ∷ [] ≡ before ++ last ∷ [] → is_some last.tail ≡ true → ⊥
    never [] last are tail =
        let bad : false ≡ true = sym (ap (λ t. is_some t) none) ∙ ap (λ rs. is_some (get_or rs 0 r).tail) are ∙ tail in
        absurd (cc)
    never (x ∷ xs) last are tail = omega (arith, ap length are, length-append xs (last ∷ []))

-- and none before it
goes_on_after_a_tail : (r q : ChunkResult ℕ) → r.tail ≡ Some Closed → StopsAtTail (r ∷ q ∷ []) → ⊥
goes_on_after_a_tail r q closed stops = never stops.before stops.last stops.are stops.opens
  where
    never : (before : List (ChunkResult ℕ)) (last : ChunkResult ℕ) → r ∷ q ∷ [] ≡ before ++ last ∷ [] → All IsOpen before → ⊥
    never [] last are opens = omega (arith, ap length are)
    never (x ∷ xs) last are opens =
        let first : r.tail ≡ x.tail = ap (λ rs. (get_or rs 0 r).tail) are in
        let none : x.tail ≡ None = All-head IsOpen x xs opens in
        absurd (cc)

-- no record is left unanswered without a fault
stops_before_a_record : (rs : List (ChunkResult ℕ)) → Stops None (taken_one ∷ []) rs → ⊥
stops_before_a_record rs stops = omega (arith, ap length stops.0)

-- and there was no tail where there was one
fails_after_a_tail : (r : ChunkResult ℕ) → r.tail ≡ Some Closed → Stops (Some Memory) [] (r ∷ []) → ⊥
fails_after_a_tail r closed stops = let none : r.tail ≡ None = All-head IsOpen r [] stops in absurd (cc)

fails_at_once : Stops {T = ℕ} (Some Memory) (taken_one ∷ []) []
fails_at_once = All-nil IsOpen

-- a worker without a fault has sent something
nothing_sent : {T : Type 0} (share : List Record) → Follows {T = T} share None [] → ⊥
nothing_sent share follows =
    let last = ap length follows.stops.1.are in
    omega (arith, last, length-append follows.stops.1.before (follows.stops.1.last ∷ []))

-- and has sent no more than one result a record
more_than_records : (r q : ChunkResult ℕ) → Follows [] None (r ∷ q ∷ []) → ⊥
more_than_records r q follows = none follows.answered follows.rest follows.share_is follows.are
  where
    none : (answered rest : List Record) → [] ≡ answered ++ rest → AllZip Answers answered (r ∷ q ∷ []) → ⊥
    none [] rest is are = absurd are
    none (x ∷ xs) rest is are = omega (arith, ap length is)

-- records that came before stay
lost_a_record : HasLeft (taken_one ∷ []) [] → ⊥
lost_a_record left = omega (arith, ap length left.share_is)

one_more_record : HasLeft (taken_one ∷ []) (taken_one ∷ found_closed ∷ [])
one_more_record = record { more = found_closed ∷ []; share_is = refl }

-- a chunk that was taken is one record more
no_record_more : (r : ChunkResult ℕ) → HasTakenChunk (taken_one ∷ []) (taken_one ∷ []) r → ⊥
no_record_more r taken = omega (arith, ap length taken.share_is)

-- which it answers
took_another_chunk : (r : ChunkResult ℕ) → r.first ≡ 1 → HasTakenChunk [] (taken_one ∷ []) r → ⊥
took_another_chunk r one taken =
    let zero : 0 ≡ taken.entry.first = ap (λ rs. (get_or rs 0 found_closed).first) taken.share_is in
    omega (arith, one, zero, taken.answers.first)

-- ---- what a pass knows

-- a worker sends under its own number alone, and doesn't receive
sends_under_its_number : has 3 (sender {T = ℕ} 3 []).numbers ≡ true
sends_under_its_number = refl

sends_under_another : has 4 (sender {T = ℕ} 3 []).numbers ≡ false
sends_under_another = refl

-- the receiving pass has the numbers that weren't handed out yet
has_the_next_number : has 3 (receiver_from {T = ℕ} 3).numbers ≡ true
has_the_next_number = refl

has_a_number_that_it_gave : has 2 (receiver_from {T = ℕ} 3).numbers ≡ false
has_a_number_that_it_gave = refl

has_more_than_all_numbers : has 64 (receiver_from {T = ℕ} 3).numbers ≡ false
has_more_than_all_numbers = refl

numbers_from_another : HasNumbersFrom {T = ℕ} 3 (receiver_from 4) → ⊥
numbers_from_another has_numbers = let bad : 4 ≡ 3 = ap (λ ns. get_or ns 0 9) has_numbers in omega (arith, bad)

sender_is_no_receiver : IsReceiver {T = ℕ} (sender 3 []) → ⊥
sender_is_no_receiver receiver = let same = receiver.receives in absurd (cc)

-- a pass that receives has sent nothing
receiver_that_has_sent : (s : Sent (ChunkResult ℕ))
    → IsReceiver (record { numbers = []; sent = s ∷ []; receives = true; received = [] }) → ⊥
receiver_that_has_sent s receiver = omega (arith, ap length receiver.sent)

receiver_is_not_at_work : IsAtWork {T = ℕ} 3 [] (receiver_from 3) → ⊥
receiver_is_not_at_work worker = let same = ap (λ a. a.receives) worker.knows in absurd (cc)

-- what was sent under a number
abbrev pub sent_under : ℕ → ChunkResult ℕ → Sent (ChunkResult ℕ)
sent_under number c = record { number = number; item = c }

at_work_without_a_record : IsAtWork {T = ℕ} 3 [] (sender 3 [])
at_work_without_a_record = record {
  knows = refl;
  own = All-nil (λ (s : Sent (ChunkResult ℕ)). s.number ≡ 3);
  are = tt;
  opens = All-nil IsOpen;
}

module _ (c : ChunkResult ℕ) where
  at_work_under_another : IsAtWork 3 [] (sender 3 (sent_under 4 c ∷ [])) → ⊥
  at_work_under_another worker = omega (arith, All-head (λ s. s.number ≡ 3) (sent_under 4 c) [] worker.own)

  -- nothing was sent for a record
  at_work_and_silent : IsAtWork {T = ℕ} 3 (taken_one ∷ []) (sender 3 []) → ⊥
  at_work_and_silent worker = absurd worker.are

  at_work_after_a_tail : (share : List Record) → c.tail ≡ Some Closed → IsAtWork 3 share (sender 3 (sent_under 3 c ∷ [])) → ⊥
  at_work_after_a_tail share closed worker = let none : c.tail ≡ None = All-head IsOpen c [] worker.opens in absurd (cc)

module _ (share : List Record) (fault : Option TakeFault) where
  receiver_has_not_worked : HasWorked {T = ℕ} 3 share fault (receiver_from 3) → ⊥
  receiver_has_not_worked worked = let same = ap (λ a. a.receives) worked.knows in absurd (cc)

  worked_under_another : (c : ChunkResult ℕ) → HasWorked 3 share fault (sender 3 (sent_under 4 c ∷ [])) → ⊥
  worked_under_another c worked = omega (arith, All-head (λ s. s.number ≡ 3) (sent_under 4 c) [] worked.own)

  worked_and_silent : HasWorked {T = ℕ} 3 share None (sender 3 []) → ⊥
  worked_and_silent worked = nothing_sent share worked.follows

-- ---- what a worker is started with, and brings back

module _ {S T M C : Type 0} {source : Ghosts S T} (stream : Stream (ChunkResult M) C) (partition : Partition S T source)
    (pass : StreamPass (ChunkResult M)) where
  abbrev IsThird : Type 0
  IsThird = IsNewcomer stream 3 partition pass

  starts_with_nothing : IsPassOf stream pass → knowledge_of pass ≡ sender 3 [] → (holding_of partition).share ≡ [] → IsThird
  starts_with_nothing of knows share = record { of = of; knows = knows; share = share }

  starts_in_another_stream : (IsPassOf stream pass → ⊥) → IsThird → ⊥
  starts_in_another_stream never new = never new.of

  starts_under_another_number : knowledge_of pass ≡ sender 4 [] → IsThird → ⊥
  starts_under_another_number knows new =
      let bad : 4 ≡ 3 = ap (λ a. get_or a.numbers 0 9) (sym knows ∙ new.knows) in
      omega (arith, bad)

  starts_with_a_record : (holding_of partition).share ≡ taken_one ∷ [] → IsThird → ⊥
  starts_with_a_record one new = omega (arith, ap length one, ap length new.share)

module _ {S T M : Type 0} {source : Ghosts S T} (chunked : Chunked S T source) (given : StreamPass (ChunkResult M))
    (back : Worked S M T source) where
  brings_another_partition : (IsPartitionOf chunked back.partition → ⊥) → IsBack chunked given 3 back → ⊥
  brings_another_partition never is = never is.of

  brings_another_pass : (IsBeside given back.stream → ⊥) → IsBack chunked given 3 back → ⊥
  brings_another_pass never is = never is.pass

  brings_the_receivers_pass : knowledge_of back.stream ≡ receiver_from 3 → IsBack chunked given 3 back → ⊥
  brings_the_receivers_pass knows is = let bad : true ≡ false = ap (λ a. a.receives) (sym knows ∙ is.worked.knows) in absurd (cc)

-- the pass of nobody
abbrev nobodys : {M : Type 0} → PassKnowledge (ChunkResult M)
nobodys = record { numbers = []; sent = []; receives = true; received = [] }

module _ {S T M : Type 0} {source : Ghosts S T} (p : Partition S T source) (faults : WorkerFaults) where
  answered_by_a_lower_number : (a : PassKnowledge (ChunkResult M)) → (is : IsAnsweredBy 3 a faults p) → is.number ≡ 2 → ⊥
  answered_by_a_lower_number a is two = omega (arith, two, is.above)

  answered_by_nobody : IsAnsweredBy {M = M} 0 nobodys faults p → ⊥
  answered_by_nobody is = let bad : false ≡ true = is.own in absurd (cc)

  answered_by_silence : (is : IsAnsweredBy {M = M} 0 (sender 2 []) faults p) → is.fault ≡ None → ⊥
  answered_by_silence is none =
      nothing_sent (holding_of p).share (subst (λ fault. Follows {T = M} (holding_of p).share fault []) none is.follows)

  answered_but_for_a_fault : (a : PassKnowledge (ChunkResult M)) → (is : IsAnsweredBy 0 a faults p) → is.fault ≡ Some Memory
      → faults.memory ≡ false → ⊥
  answered_but_for_a_fault a is memory unnoted =
      let noted : faults.memory ≡ true = subst (λ fault. IfSome fault (λ f. has_noted faults f ≡ true)) memory is.noted in
      absurd (cc)

  wholly_answered_by_nobody : IsWhollyAnsweredBy {M = M} nobodys p → ⊥
  wholly_answered_by_nobody is = let bad : false ≡ true = is.own in absurd (cc)

  wholly_answered_by_silence : IsWhollyAnsweredBy {M = M} (sender 2 []) p → ⊥
  wholly_answered_by_silence is = nothing_sent (holding_of p).share is.follows
