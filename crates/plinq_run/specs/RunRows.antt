-- Rows of runs: which deliveries and reports a run may give, and which not.
use Rattle.std.specs.Prelude.{◌≡◌, ◌||◌, refl, ℕ, ◌+◌, ◌≤◌, nat_lt, pos, List, [], ◌∷◌, ◌++◌, length, get_or, Bool, true, false}
use Rattle.std.specs.Prelude.{Option, Some, None, Result, Ok, Err}
use Rattle.std.specs.Int.{int_max}
use Rattle.std.specs.Global.{Vec}
use Rattle.std.proofs.Common.{arith, ap, sym, subst, ◌∙◌}
use Rattle.std.proofs.lemmas.List.{length-append}
use Rattle.std.proofs.lemmas.List.Elements.{All-nil, All-cons}
use Rattle.plinq_aggregate.specs.Numbers.{picking}
use Rattle.plinq_source.specs.declared.ending.Ending.TheVariants.{End, Refused, Fault}
use Rattle.plinq_source.specs.Trace.{Trace, ended_trace, open_trace}
use Rattle.plinq_keyed.specs.declared.event.Event.TheVariants.{Ask, Close}
use Rattle.plinq_keyed.specs.declared.record.Record.{Record}
use Rattle.plinq_keyed.specs.declared.tail.Tail.{Tail}
use Rattle.plinq_keyed.specs.declared.tail.Tail.TheVariants.{Ended, Closed}
use Rattle.plinq_merge.specs.declared.with_cancellation.WithCancellation.{WithCancellation}
use Rattle.plinq_merge.specs.Sending.{Leads}
use Rattle.plinq_merge.specs.Cancelling.{Delivery, Passes, IsAsked}
use Rattle.plinq_ops.specs.declared.merge_option.MergeOption.TheVariants.{NotBuffered}
use Rattle.plinq_ops.specs.declared.results.ChunkResult.{ChunkResult}
use Rattle.plinq_ops.specs.Answer.{Answer}
use Rattle.plinq_ops.specs.Operator.{example}
use Rattle.plinq_run.specs.declared.aggregate_fault.AggregateFault.TheVariants.{Ended as EndedSo, Run}
use Rattle.plinq_run.specs.declared.report.Report.{Report}
use Rattle.plinq_run.specs.declared.run_fault.RunFault.{RunFault}
use Rattle.plinq_run.specs.declared.run_fault.RunFault.TheVariants.{Memory, Sink, Tickets, Thread, Incomplete, Cancelled}
use Rattle.plinq_run.specs.Aggregates.{Aggregates}
use Rattle.plinq_run.specs.Endings.{RunsDecided, RunsDecidedWith}
use Rattle.plinq_run.specs.Handed.{is_end, handed_trace}
use Rattle.plinq_run.specs.Headline.{HasDelivered}
use Rattle.plinq_run.specs.inner.TokenReports.{ReportsLent}
use Rattle.plinq_run.specs.inner.Offered.{IsOffered, Covers}
use Rattle.plinq_run.specs.Reports.{HasReported}
use Rattle.plinq_run.specs.Runs.{Runs}
use Rattle.plinq_run.specs.Stopping.{RunsWith, StopsAfter}

-- a sink that keeps the items of its batches, and refuses one with 9
abbrev keeps : List ℕ → List ℕ → List ℕ → Type 0
keeps s b s' = s' ≡ s ++ b

abbrev refuses_with_9 : List ℕ → List ℕ → ℕ → List ℕ → Type 0
refuses_with_9 s b code s' = (code ≡ 9) × (s' ≡ s)

-- ---- runs of a query that keeps the order, whose answer is this one

abbrev four_two_five : Trace ℕ
four_two_five = ended_trace (4 ∷ 2 ∷ 5 ∷ []) End

all_batches_in_order : Runs keeps refuses_with_9 NotBuffered four_two_five [] (4 ∷ 2 ∷ 5 ∷ []) (Ok End)
all_batches_in_order = record { delivered = (4 ∷ [], refl, (4 ∷ 2 ∷ [], refl, (4 ∷ 2 ∷ 5 ∷ [], refl, refl))); ending = refl }

refused_second : Runs keeps refuses_with_9 NotBuffered four_two_five [] (4 ∷ []) (Err (Sink 9))
refused_second = (((4 ∷ []) ∷ []), 2 ∷ [], ((5 ∷ []) ∷ []), 4 ∷ [], refl, (4 ∷ [], refl, refl), (refl, refl))

no_memory_after_the_first : Runs keeps refuses_with_9 NotBuffered four_two_five [] (4 ∷ []) (Err Memory)
no_memory_after_the_first = (((4 ∷ []) ∷ []), ((2 ∷ []) ∷ (5 ∷ []) ∷ []), refl, (4 ∷ [], refl, refl))

-- each other fault says as much of what was delivered
abbrev after_the_first : RunFault → Type 0
after_the_first fault = Runs keeps refuses_with_9 NotBuffered four_two_five [] (4 ∷ []) (Err fault)

no_thread_after_the_first : after_the_first Thread
no_thread_after_the_first = no_memory_after_the_first

no_ticket_after_the_first : after_the_first Tickets
no_ticket_after_the_first = no_memory_after_the_first

incomplete_after_the_first : after_the_first Incomplete
incomplete_after_the_first = no_memory_after_the_first

-- without a token nothing cancels a run
cancelled_without_a_token : after_the_first Cancelled → ⊥
cancelled_without_a_token run = absurd run

-- the item that a sink has first stays the first
keeps_first : (x : ℕ) (xs : List ℕ) (bs : List (List ℕ)) (s' : List ℕ) → Leads keeps (x ∷ xs) bs s' → get_or s' 0 0 ≡ x
keeps_first x xs [] s' is = ap (λ s. get_or s 0 0) is
keeps_first x xs (b ∷ bs) s' (m, is, leads) = keeps_first x (xs ++ b) bs s' (subst (λ s. Leads keeps s bs s') is leads)

-- so the first batch comes first
four_is_first : (sent rest : List (List ℕ)) (x : ℕ) → (4 ∷ []) ∷ (2 ∷ []) ∷ (5 ∷ []) ∷ [] ≡ sent ++ rest → Leads keeps [] sent (x ∷ []) → x ≡ 4
four_is_first [] rest x parts leads = absurd (omega (arith, ap length leads))
four_is_first (b ∷ bs) rest x parts (m, is, leads) =
    let begun : m ≡ 4 ∷ [] = is ∙ sym (ap (λ bs. get_or bs 0 []) parts) in
    keeps_first 4 [] bs (x ∷ []) (subst (λ s. Leads keeps s bs (x ∷ [])) begun leads)

-- what a run that broke off has delivered is a beginning: not the second batch alone, by whatever fault
second_without_memory : Runs keeps refuses_with_9 NotBuffered four_two_five [] (2 ∷ []) (Err Memory) → ⊥
second_without_memory (sent, rest, parts, leads) = omega (arith, four_is_first sent rest 2 parts leads)

second_and_a_refusal : Runs keeps refuses_with_9 NotBuffered four_two_five [] (2 ∷ []) (Err (Sink 9)) → ⊥
second_and_a_refusal (sent, b, rest, m, parts, leads, (code, is)) =
    omega (arith, four_is_first sent (b ∷ rest) 2 parts (subst (λ s. Leads keeps [] sent s) (sym is) leads))

-- nor more than there is
abbrev too_much : List ℕ
too_much = 4 ∷ 2 ∷ 5 ∷ 1 ∷ []

-- as many items were kept as the batches have
abbrev lengths : List (List ℕ) → ℕ
lengths [] = 0
lengths (b ∷ bs) = length b + lengths bs

lengths-append : (bs cs : List (List ℕ)) → lengths (bs ++ cs) ≡ lengths bs + lengths cs
lengths-append [] cs = omega arith
lengths-append (b ∷ bs) cs = omega (arith, lengths-append bs cs)

keeps_all : (s : List ℕ) (bs : List (List ℕ)) (s' : List ℕ) → Leads keeps s bs s' → length s' ≡ length s + lengths bs
keeps_all s [] s' is = omega (arith, ap length is)
keeps_all s (b ∷ bs) s' (m, is, leads) = omega (arith, ap length is, length-append s b, keeps_all m bs s' leads)

more_than_the_answer : Runs keeps refuses_with_9 NotBuffered four_two_five [] too_much (Err Memory) → ⊥
more_than_the_answer (sent, rest, parts, leads) = omega (arith, ap lengths parts, lengths-append sent rest, keeps_all [] sent too_much leads)

another_order : Runs keeps refuses_with_9 NotBuffered four_two_five [] (2 ∷ 4 ∷ 5 ∷ []) (Ok End) → ⊥
another_order run =
    let (first, is_first, (second, is_second, (third, is_third, last))) = run.delivered in
    let one : List ℕ = 4 ∷ [] in
    let two : second ≡ one ++ 2 ∷ [] = is_second ∙ ap (λ s. s ++ 2 ∷ []) is_first in
    let three : third ≡ one ++ 2 ∷ 5 ∷ [] = is_third ∙ ap (λ s. s ++ 5 ∷ []) two in
    let same : 2 ≡ 4 = ap (λ s. get_or s 0 0) (last ∙ three) in
    absurd (omega (arith, same))

another_ending : Runs keeps refuses_with_9 NotBuffered four_two_five [] (4 ∷ 2 ∷ 5 ∷ []) (Ok (Fault 1)) → ⊥
another_ending run = let same = run.ending in absurd (cc)

-- the same by the words of the headline
abbrev Delivers : List ℕ → Result Report RunFault → Type 0
Delivers s' r = HasDelivered keeps refuses_with_9 (Some NotBuffered) four_two_five [] s' r

all_delivered : (records : Vec Record) → Delivers (4 ∷ 2 ∷ 5 ∷ []) (Ok (record { ending = End; records = records }))
all_delivered records = (refl, (4 ∷ [], refl, (4 ∷ 2 ∷ [], refl, (4 ∷ 2 ∷ 5 ∷ [], refl, refl))))

second_delivered_alone : Delivers (2 ∷ []) (Err Memory) → ⊥
second_delivered_alone (sent, rest, parts, leads) = omega (arith, four_is_first sent rest 2 parts leads)

second_delivered_and_a_refusal : Delivers (2 ∷ []) (Err (Sink 9)) → ⊥
second_delivered_and_a_refusal (sent, b, rest, m, parts, leads, (code, is)) =
    omega (arith, four_is_first sent (b ∷ rest) 2 parts (subst (λ s. Leads keeps [] sent s) (sym is) leads))

more_delivered_than_the_answer : Delivers too_much (Err Memory) → ⊥
more_delivered_than_the_answer (sent, rest, parts, leads) = omega (arith, ap lengths parts, lengths-append sent rest, keeps_all [] sent too_much leads)

cancelled_and_delivered : Delivers [] (Err Cancelled) → ⊥
cancelled_and_delivered has = absurd has

-- ---- runs with a token that stops at one batch

abbrev at_one : Bool → ℕ → Bool → Bool → Type 0
at_one t n answer t' = (answer ≡ nat_lt 0 n) × (t' ≡ answer)

abbrev having : List ℕ → ℕ → Delivery Bool (List ℕ)
having items delivered = record { token = false; sink = items; delivered = delivered }

abbrev stopped_with : List ℕ → ℕ → Delivery Bool (List ℕ)
stopped_with items delivered = record { token = true; sink = items; delivered = delivered }

stopped_after_one : RunsWith at_one keeps refuses_with_9 NotBuffered four_two_five (having [] 0) (stopped_with (4 ∷ []) 1) (Err Cancelled)
stopped_after_one = record {
  sent = (4 ∷ []) ∷ [];
  rest = (2 ∷ []) ∷ (5 ∷ []) ∷ [];
  parts = refl;
  last = having (4 ∷ []) 1;
  leads = (having (4 ∷ []) 1, record { asked = (refl, refl); taken = refl; counts = refl }, refl);
  stops = record { asked = (refl, refl); sink = refl; counts = refl };
}

-- no batch comes after the stop, nor is a batch delivered where the token would have stopped it
one_after_the_stop : RunsWith at_one keeps refuses_with_9 NotBuffered four_two_five (having [] 0) (stopped_with (4 ∷ 2 ∷ []) 1) (Err Cancelled) → ⊥
one_after_the_stop run = passed run.sent run.rest run.parts run.last run.leads run.stops
  where
    -- after a batch the token lets no other pass
    no_other : (d e : Delivery Bool (List ℕ)) (b : List ℕ) → d.delivered ≡ 1 → Passes at_one keeps d b e → ⊥
    no_other d e b one passes = let lets : false ≡ nat_lt 0 1 = passes.asked.0 ∙ ap (nat_lt 0) one in absurd (cc)

    passed : (sent rest : List (List ℕ)) → (4 ∷ []) ∷ (2 ∷ []) ∷ (5 ∷ []) ∷ [] ≡ sent ++ rest → (last : Delivery Bool (List ℕ))
        → Leads (Passes at_one keeps) (having [] 0) sent last → IsAsked at_one true last (stopped_with (4 ∷ 2 ∷ []) 1) → ⊥
    passed [] rest parts last leads stops = omega (arith, ap length stops.sink, ap length (ap (λ d. d.sink) leads))
    passed (b ∷ []) rest parts last (m, first, leads) stops =
        let four : 4 ∷ [] ≡ b = ap (λ bs. get_or bs 0 []) parts in
        omega (arith, ap length stops.sink, ap length (ap (λ d. d.sink) leads), ap length first.taken, ap length four)
    passed (b ∷ c ∷ bs) rest parts last (m, first, (n, second, leads)) stops = no_other m n c first.counts second

-- ---- reports of a query that doesn't keep the order, and has no operator

abbrev one_two : Trace ℕ
one_two = ended_trace (1 ∷ 2 ∷ []) End

-- two items were handed out, one by one, then the end; then the source was closed
abbrev all_handed_out : List Record
all_handed_out =
    record { ticket = 0; asked = Ask 1; first = 0; count = 1; tail = None }
    ∷ record { ticket = 1; asked = Ask 1; first = 1; count = 1; tail = None }
    ∷ record { ticket = 2; asked = Ask 1; first = 2; count = 0; tail = Some Ended }
    ∷ record { ticket = 3; asked = Close; first = 2; count = 0; tail = Some Closed }
    ∷ []

abbrev IsAnswer : Trace ℕ → Trace ℕ → Type 0
IsAnswer t u = Answer {L = ℕ} (λ _. example) false [] t u

abbrev MayReport : Vec Record → List ℕ → Type 0
MayReport records s' = HasReported keeps refuses_with_9 NotBuffered IsAnswer one_two [] s' (record { ending = End; records = records })

-- the later item came first
the_other_way_round : (records : Vec Record) → records.items ≡ all_handed_out → MayReport records (2 ∷ 1 ∷ [])
the_other_way_round records are = record {
  answer = ended_trace (2 ∷ 1 ∷ []) End;
  may = turned;
  accounts = rw are turned;
  has_run = record { delivered = (2 ∷ [], refl, (2 ∷ 1 ∷ [], refl, refl)); ending = refl };
}
  where
    turned : IsAnswer one_two (ended_trace (2 ∷ 1 ∷ []) End)
    turned = record {
      between = ended_trace (2 ∷ 1 ∷ []) End;
      given = record { items = record { moves = (0, 1) ∷ []; below = (omega arith, omega arith, tt); is = refl }; ending = refl };
      goes_on = refl;
    }

-- nothing accounts for an answer that has ended
no_records : (records : Vec Record) → records.items ≡ [] → MayReport records (2 ∷ 1 ∷ []) → ⊥
no_records records are report =
    let known : (handed_trace one_two records.items).ending ≡ None = rw are refl in
    let told : report.answer.ending ≡ None = ap (λ (t : Trace ℕ). t.ending) report.accounts.goes_on ∙ report.accounts.given.ending ∙ known in
    let same = report.has_run.ending in
    absurd (cc)

-- a token that has told of a stop, though another fault broke the run off
told_of_no_stop : (w w' : WithCancellation Bool (List ℕ)) → w.token.now ≡ false → w'.token.now ≡ true
    → ReportsLent at_one (λ told. told) keeps refuses_with_9 NotBuffered IsAnswer one_two w w' (Err Memory) → ⊥
told_of_no_stop w w' untold told lent =
    let same : true ≡ (false || false) = sym told ∙ lent.told ∙ ap (λ t. t || false) untold in
    absurd (cc)

-- ---- what records hand out

-- a record of two items
abbrev first_two : Option Tail → List Record
first_two tail = record { ticket = 0; asked = Ask 2; first = 0; count = 2; tail = tail } ∷ []

-- three items, of which the first two have all that it hands out
first_two_cover : Covers {T = ℕ} (ended_trace (3 ∷ 1 ∷ 4 ∷ []) End) (first_two None) (open_trace (3 ∷ 1 ∷ []))
first_two_cover = record {
  items = refl;
  within = omega arith;
  ends = All-cons (λ (r : Record). r.first + r.count ≤ 2) _ [] (omega arith) (All-nil (λ (r : Record). r.first + r.count ≤ 2));
  told = All-cons (λ (r : Record). is_end r.tail ≡ true → None ≡ Some End) _ [] (λ told. absurd (cc))
      (All-nil (λ (r : Record). is_end r.tail ≡ true → None ≡ Some End));
}

-- where the end was reported, they don't
end_isnt_covered : Covers {T = ℕ} (ended_trace (3 ∷ 1 ∷ []) End) (first_two (Some Ended)) (open_trace (3 ∷ 1 ∷ [])) → ⊥
end_isnt_covered covers = let same = covers.told 0 (record { ticket = 0; asked = Close; first = 0; count = 0; tail = None }) (omega arith) refl in absurd (cc)

-- nor does the first
second_isnt_covered : Covers {T = ℕ} (ended_trace (3 ∷ 1 ∷ 4 ∷ []) End) (first_two None) (open_trace (3 ∷ [])) → ⊥
second_isnt_covered covers = absurd (omega (arith, covers.ends 0 (record { ticket = 0; asked = Close; first = 0; count = 0; tail = None }) (omega arith)))

-- a result that is of no record wasn't offered
offered_of_nothing : (r : ChunkResult ℕ) → IsOffered (λ _. Unit {0}) [] r → ⊥
offered_of_nothing r (is, (k, entry, less, at, answers)) = absurd (omega (arith, less))

-- ---- aggregates

value_of_an_answer : Aggregates (picking int_max) (ended_trace (pos 3 ∷ pos 9 ∷ pos 4 ∷ []) End) (Ok (Some (pos 9)))
value_of_an_answer = (refl, refl)

no_value_of_a_refusal : Aggregates (picking int_max) (ended_trace (pos 3 ∷ []) (Refused 7)) (Ok (Some (pos 3))) → ⊥
no_value_of_a_refusal tells = let same = tells.1 in absurd (cc)

told_how_it_ended : Aggregates (picking int_max) (ended_trace (pos 3 ∷ []) (Refused 7)) (Err (EndedSo (Refused 7)))
told_how_it_ended = (refl, λ same. absurd (cc))

the_end_is_no_fault : Aggregates (picking int_max) (ended_trace (pos 3 ∷ []) End) (Err (EndedSo End)) → ⊥
the_end_is_no_fault tells = tells.1 refl

no_sink_refuses : Aggregates (picking int_max) (ended_trace (pos 3 ∷ []) End) (Err (Run (Sink 9))) → ⊥
no_sink_refuses tells = absurd (cc)

another_value : Aggregates (picking int_max) (ended_trace (pos 3 ∷ pos 9 ∷ []) End) (Ok (Some (pos 3))) → ⊥
another_value tells = let same = tells.0 in absurd (cc)

no_token_stops : Aggregates (picking int_max) (ended_trace (pos 3 ∷ []) End) (Err (Run Cancelled)) → ⊥
no_token_stops tells = absurd (cc)

no_room_for_a_value : Aggregates (picking int_max) (ended_trace (pos 3 ∷ []) End) (Err (Run Memory))
no_room_for_a_value = refl

-- ---- runs that stop after so many batches

abbrev three_batches : List (List ℕ)
three_batches = (4 ∷ []) ∷ (2 ∷ []) ∷ (5 ∷ []) ∷ []

stopped_after_two : StopsAfter keeps 2 three_batches [] (4 ∷ 2 ∷ []) (Err Cancelled)
stopped_after_two = (omega arith, (4 ∷ [], refl, (4 ∷ 2 ∷ [], refl, refl)))

stopped_too_early : StopsAfter keeps 2 three_batches [] (4 ∷ []) (Err Cancelled) → ⊥
stopped_too_early (enough, (m, one, (n, two, last))) = omega (arith, ap length last, ap length two, ap length one, length-append m (2 ∷ []))

-- ---- runs of decided queries, whose sink counts its batches

decided_and_delivered : (records : Vec Record) → RunsDecided {K = ℕ} 0 1 (Ok (record { ending = End; records = records })) → ⊥
decided_and_delivered records runs = omega (arith, runs.untouched)

decided_and_refused : RunsDecided {K = ℕ} 0 0 (Err Memory) → ⊥
decided_and_refused runs = let same = runs.answered in absurd (cc)

decided_and_asked : (records : Vec Record) (asked : Record) → records.items ≡ asked ∷ []
    → RunsDecided {K = ℕ} 0 0 (Ok (record { ending = End; records = records })) → ⊥
decided_and_asked records asked one runs = omega (arith, ap length one, ap length runs.none)

decided_and_cancelled : RunsDecidedWith {K = ℕ} 1 1 (Err Cancelled)
decided_and_cancelled = record { ended = tt; cancelled = refl; untouched = refl; none = tt }

decided_without_memory : RunsDecidedWith {K = ℕ} 0 0 (Err Memory) → ⊥
decided_without_memory runs = let same = runs.cancelled in absurd (cc)
