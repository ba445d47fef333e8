-- Rows of what commands report, which faults each may have, and what a run that breaks off leaves.
use Rattle.std.specs.Prelude.{◌≡◌, refl, ℕ, ℤ, pos, List, [], ◌∷◌, true, false, length, unwrap_or, Option, Some, None, Ok, Err}
use Rattle.std.proofs.Common.{sym, ◌∙◌, ap, inl, inr, arith}
use Rattle.clap.specs.declared.error.kind.ErrorKind.TheVariants.{UnknownArgument, DisplayHelp, OutOfMemory}
use Rattle.plinq_source.specs.declared.ending.Ending.TheVariants.{End, Refused, Fault}
use Rattle.plinq_source.specs.Trace.{Trace, ended_trace}
use Rattle.plinq_partition.specs.declared.take_fault.TakeFault.TheVariants.{Memory as NoRoom, Spent}
use Rattle.plinq_keyed.specs.declared.event.Event.TheVariants.{Ask}
use Rattle.plinq_keyed.specs.declared.record.Record.{Record}
use Rattle.plinq_keyed.specs.declared.tail.Tail.{Tail}
use Rattle.plinq_keyed.specs.declared.tail.Tail.TheVariants.{Ended as AtItsEnd, Refused as TailRefused, Closed}
use Rattle.plinq_enumerator.specs.Growing.{GrowthRule}
use Rattle.plinq_run.specs.declared.run_fault.RunFault.TheVariants.{Sink, Thread, Cancelled}
use Rattle.plinq_run.specs.declared.aggregate_fault.AggregateFault.TheVariants.{Ended, Run as RunFaulted}
use Rattle.plinq_run.specs.Runs.{SinkRefused, Other}
use Rattle.plinq_document.specs.declared.doc_fault.DocFault.TheVariants.{TooLong, NotJson}
use Rattle.plinq_arguments.specs.declared.command.Command.{Command}
use Rattle.plinq_arguments.specs.declared.command.Command.TheVariants.{Run as RunQuery, Seq, Plan, Parts, History}
use Rattle.plinq_cli.specs.declared.serve_fault.ServeFault.TheVariants.{Memory, Write, Run, Take}
use Rattle.plinq_cli.specs.declared.failure.Failure.TheVariants.{Document, Memory as OutOfRoom, Write as WriteFailed}
use Rattle.plinq_cli.specs.ServeFaults.{MayFail}
use Rattle.plinq_cli.specs.Rounds.{AsksUntilTail, tail_ending, told_ending}
use Rattle.plinq_cli.specs.Told.{TellsValue}
use Rattle.plinq_cli.specs.Served.{CountsIf, HasBrokenOff, EndsInTime, Serves, add_one}
use Rattle.plinq_cli.specs.Performed.{RefusesDocument, Flushes, IsMeant, Shows, IsSilent}
use Rattle.plinq_ops.specs.declared.merge_option.MergeOption.TheVariants.{NotBuffered}
use Rattle.plinq_settings.specs.declared.settings.Settings.{Settings}
use Rattle.plinq_arguments.specs.declared.arguments.Arguments.{Arguments}

-- ---- which faults each command may have

a_plan_without_memory : MayFail Plan Memory → ⊥
a_plan_without_memory may = may.1 refl

a_run_without_memory_of_its_own : MayFail RunQuery Memory → ⊥
a_run_without_memory_of_its_own may = may.0 refl

one_thread_without_a_thread : MayFail Seq (Run Thread) → ⊥
one_thread_without_a_thread may = let is = may.0 in absurd (cc)

-- a sink that refused is a failing write
a_run_whose_sink_refused : MayFail RunQuery (Run (Sink 1)) → ⊥
a_run_whose_sink_refused may = may.1 1 refl

parts_without_tickets : MayFail Parts (Take Spent) → ⊥
parts_without_tickets may = let is = may.0 in absurd (cc)

a_take_without_room : MayFail History (Take NoRoom) → ⊥
a_take_without_room may = may.1 refl

-- ---- a run that broke off

cancelled_after_no_number : CountsIf Cancelled None 3 → ⊥
cancelled_after_no_number is = absurd (cc)

cancelled_after_another_number : CountsIf Cancelled (Some 2) 3 → ⊥
cancelled_after_another_number is = absurd (cc)

cancelled_though_nobody_asked : (old new : Option (List ℕ)) → HasBrokenOff add_one.query add_one.source old new None Cancelled → ⊥
cancelled_though_nobody_asked old new it = let is = it.number in absurd (cc)

-- it was to be cancelled at once
goes_on_to_its_end : (old new : Option (List ℕ)) → EndsInTime false None add_one.query add_one.source (Some 0) old new → ⊥
goes_on_to_its_end old new it = absurd (omega (arith, it.2))

-- ---- what is told of an aggregate

abbrev two : Trace ℤ
two = ended_trace (pos 4 ∷ pos 2 ∷ []) End

abbrev count_of : List ℤ → Option ℤ
count_of xs = Some (pos (length xs))

a_value_of_a_fault : TellsValue count_of (λ u. u ≡ ended_trace (pos 4 ∷ []) (Fault 1)) (Ok (Some (pos 1))) → ⊥
a_value_of_a_fault tells = let bad : Some (Fault 1) ≡ Some End = sym (ap (λ u. u.ending) tells.1) ∙ tells.3 in absurd (cc)

the_end_is_told_as_a_fault : TellsValue count_of (λ u. u ≡ two) (Err (Ended End)) → ⊥
the_end_is_told_as_a_fault tells = tells.3 refl

no_sink_refused : TellsValue count_of (λ u. u ≡ two) (Err (RunFaulted (Sink 3))) → ⊥
no_sink_refused tells = let bad : SinkRefused 3 ≡ Other = tells in cc

-- ---- the requests of a partition

abbrev ones : GrowthRule
ones = record { first = 1; repeat = 1; max = 1 }

abbrev for_one : ℕ → ℕ → ℕ → Option Tail → Record
for_one ticket first count tail = record { ticket = ticket; asked = Ask 1; first = first; count = count; tail = tail }

no_request_at_all : AsksUntilTail ones 0 [] → ⊥
no_request_at_all asks = asks

asks_on_after_a_tail : AsksUntilTail ones 0 (for_one 0 0 1 (Some AtItsEnd) ∷ for_one 1 1 0 (Some AtItsEnd) ∷ []) → ⊥
asks_on_after_a_tail asks = let is = asks.1 in absurd (cc)

ends_without_a_tail : AsksUntilTail ones 0 (for_one 0 0 1 None ∷ []) → ⊥
ends_without_a_tail asks = let bad : false ≡ true = asks.1 in cc

the_first_tail_counts : told_ending (for_one 0 0 1 None ∷ for_one 1 1 0 (Some (TailRefused 7)) ∷ for_one 2 1 0 (Some AtItsEnd) ∷ []) ≡ Some (Refused 7)
the_first_tail_counts = refl

a_close_is_no_ending : tail_ending (Some Closed) (Some End) ≡ None
a_close_is_no_ending = refl

-- ---- what is said and written

an_answer_of_a_refused_document : (old new : Option (List ℕ)) → RefusesDocument NotJson old new (Ok End) → ⊥
an_answer_of_a_refused_document old new refuses = refuses

another_refusal_of_a_document : (old new : Option (List ℕ)) → RefusesDocument NotJson old new (Err (Document TooLong)) → ⊥
another_refusal_of_a_document old new refuses = let is = refuses.1 in absurd (cc)

a_flush_that_changes_the_ending : Flushes (Ok End) (Ok (Refused 7)) → ⊥
a_flush_that_changes_the_ending (inl is) = absurd (cc)
a_flush_that_changes_the_ending (inr is) = absurd (cc)

a_flush_that_hides_what_failed_before : Flushes (Err OutOfRoom) (Err WriteFailed) → ⊥
a_flush_that_hides_what_failed_before (inl is) = absurd (cc)
a_flush_that_hides_what_failed_before (inr is) = absurd (cc)

refused_words_end_well : (old new : Option (List ℕ)) → Shows UnknownArgument old new 0 → ⊥
refused_words_end_well old new shows = absurd (omega (arith, shows.0))

refused_words_write : Shows UnknownArgument (Some []) (Some (7 ∷ [])) 2 → ⊥
refused_words_write shows = let bad : 1 ≡ 0 = ap length shows.1 in absurd (omega (arith, bad))

help_is_refused : (old new : Option (List ℕ)) → Shows DisplayHelp old new 2 → ⊥
help_is_refused old new (inl is) = absurd (omega (arith, is))
help_is_refused old new (inr is) = absurd (omega (arith, is))

no_memory_for_the_words : (old new : Option (List ℕ)) → Shows OutOfMemory old new 2 → ⊥
no_memory_for_the_words old new shows = absurd (omega (arith, shows.0))

something_is_wrong_at_status_0 : IsSilent false (Some []) (Some (7 ∷ [])) 0 → ⊥
something_is_wrong_at_status_0 (inl is) = absurd (omega (arith, is))
something_is_wrong_at_status_0 (inr (inl is)) = absurd (omega (arith, is))
something_is_wrong_at_status_0 (inr (inr (inr asked))) = let bad = asked.0 in absurd (cc)
something_is_wrong_at_status_0 (inr (inr (inl is))) = let bad : 1 ≡ 0 = ap length is in absurd (omega (arith, bad))

-- an ending is said on standard error of a plain answer alone
an_ending_is_said_twice : IsSilent false (Some []) (Some (7 ∷ [])) 3 → ⊥
an_ending_is_said_twice (inl is) = absurd (omega (arith, is))
an_ending_is_said_twice (inr (inl is)) = absurd (omega (arith, is))
an_ending_is_said_twice (inr (inr (inl is))) = let bad : 1 ≡ 0 = ap length is in absurd (omega (arith, bad))
an_ending_is_said_twice (inr (inr (inr asked))) = let bad = asked.0 in absurd (cc)

a_plain_answer_says_its_end : IsSilent true (Some []) (Some (7 ∷ [])) 0 → ⊥
a_plain_answer_says_its_end (inl is) = absurd (omega (arith, is))
a_plain_answer_says_its_end (inr (inl is)) = absurd (omega (arith, is))
a_plain_answer_says_its_end (inr (inr (inl is))) = let bad : 1 ≡ 0 = ap length is in absurd (omega (arith, bad))
a_plain_answer_says_its_end (inr (inr (inr (asked, inl is)))) = absurd (omega (arith, is))
a_plain_answer_says_its_end (inr (inr (inr (asked, inr is)))) = absurd (omega (arith, is))

-- --workers auto changes the number of workers and nothing else
abbrev asks_for_two : Arguments
asks_for_two = record { command = Seq; settings = record { workers = Some 2; merge = None; cancel_after = None }; cores = false; plain = false }

a_number_is_replaced : IsMeant asks_for_two (record { workers = Some 3; merge = None; cancel_after = None }) → ⊥
a_number_is_replaced (n, is) = let bad : 3 ≡ 2 = ap (λ (s : Settings). unwrap_or s.workers 0) is in absurd (omega (arith, bad))

another_merge_option : IsMeant (record asks_for_two { cores = true }) (record { workers = Some 3; merge = Some NotBuffered; cancel_after = None }) → ⊥
another_merge_option (n, is) = let bad : Some NotBuffered ≡ None = ap (λ (s : Settings). s.merge) is in absurd (cc)
