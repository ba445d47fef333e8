-- The words that the larger lemma files share, each from the crate that has it.
pub use Rattle.std.specs.{List.fold, List.list_any, Option.IfSome}
pub use Rattle.std.specs.Prelude.{◌≡◌, ℕ, ◌+◌, ◌<◌, ◌≤◌, List, ◌^◌, [], ◌==◌, ◌∷◌, ◌⊎◌, ◌++◌, length, take, true, false, nat_le, Result, drop, if◌then◌else◌}
pub use Rattle.std.specs.Prelude.{Ok, Err, cond, Option, Some, IfOk, None, All, refl, Bool, ◌||◌, IsPermutation, MatchBool}
pub use Rattle.std.proofs.Common.{sym, ◌∙◌, ap, subst, arith, append-nil, inl, inr, append_assoc}
pub use Rattle.std.proofs.lemmas.Bool.Decides.{nat_tests}
pub use Rattle.std.proofs.lemmas.List.{take-append-drop, length-take-le, length-drop, Sorted.IsPermutation-refl, Sorted.IsPermutation-trans}
pub use Rattle.std.proofs.lemmas.List.Elements.{All-cons, All-nil, All-head, All-tail, All-weaker}
pub use Rattle.plinq_source.specs.Trace.{Trace, ended_trace, open_trace, followed_by}
pub use Rattle.plinq_source.specs.declared.{ending.Ending.Ending, ending.Ending.TheVariants.End, source.Source.Ghosts as SourceGhosts}
pub use Rattle.plinq_lambda.specs.Meaning.{Meaning}
pub use Rattle.plinq_aggregate.specs.Folding.{Folding, fold_of, IsFolding}
pub use Rattle.plinq_keyed.specs.declared.{chunk.Chunk.Chunk, record.Record.Record}
pub use Rattle.plinq_ticket.specs.Shares.{in_ticket_order}
pub use Rattle.plinq_partition.specs.Partitions.{all_shares}
pub use Rattle.plinq_ops.specs.{Answer.MayAnswer, Answer.IsRearranged, Batches.batches, Batches.batches_from, ByKey.are_keyless, Feeding.IsFed}
pub use Rattle.plinq_ops.specs.{Feeding.is_empty_take, Fragment.glue, Operator.stages_of, Plan.IsPlanOf, Query.QueryView, Sequential.answer_of, Stage.Stage}
pub use Rattle.plinq_ops.specs.{Stage.seq, Tails.told_at, Tails.EndsAt, Tails.end_of_result}
pub use Rattle.plinq_ops.specs.Chunk.{result_trace, ChunkAnswer, IsToldBy, IsChunkResult}
pub use Rattle.plinq_ops.specs.declared.{frag_end.FragEnd.TheVariants.Dropped, merge_option.MergeOption.MergeOption, op.Op.Op, order.Order.Order}
pub use Rattle.plinq_ops.specs.declared.{order.Order.TheVariants.ByKey, order.Order.TheVariants.ByArrival, plan.Plan.Plan, results.ChunkResult.ChunkResult}
pub use Rattle.plinq_ops.proofs.Counts.{some_takes_none-stages_of}
pub use Rattle.plinq_reorder.specs.Intervals.{Interval, unbroken_row, first_gap}
pub use Rattle.plinq_merge.specs.{Cancelling.Delivery, Cancelling.Passes, OfferedKeys.is_offered, Mergers.delivery_fault_of}
pub use Rattle.plinq_merge.specs.{Taking.IsTaking, Whole.AreApart, declared.merge_fault.MergeFault.MergeFault}
pub use Rattle.plinq_merge.specs.Shown.{all_placed, all_told, all_given, arrived_trace, merged_trace}
pub use Rattle.plinq_merge.specs.declared.delivery_fault.DeliveryFault.{DeliveryFault, TheVariants.Memory as NoMemory}
pub use Rattle.plinq_merge.proofs.Lent.{leads-map}
pub use Rattle.plinq_crew.specs.{Plans.IsUndecided, Results.IsPart, Results.IsResult}
pub use Rattle.plinq_run.specs.{Endings.reported_ending, Handed.is_close, Handed.handed_trace, Parting.Breaks, Parting.IsFolded, Reports.Reports}
pub use Rattle.plinq_run.specs.{Stopping.RunsWith, declared.planning.Ended.Ended, declared.report.Report.Report}
pub use Rattle.plinq_run.specs.Runs.{HasRun, Runs, Cause, Other, cause_of, SinkRefused, BreaksFor}
pub use Rattle.plinq_run.specs.declared.run_fault.RunFault.{RunFault, TheVariants.Cancelled, TheVariants.Sink}
pub use Rattle.plinq_run.specs.inner.{Folds.IsFoldOf, Merged.HasBrokenOff, Offered.Covers, Offered.IsOffered, PlanAnswers.merged_answer, PlanAnswers.MayMerge}
