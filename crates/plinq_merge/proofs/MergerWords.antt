-- The words of the layers below and of this crate that its larger lemma files share.
pub use Rattle.std.specs.List.{list_any}
pub use Rattle.std.specs.Option.{option_or, unwrap_or, IfSome}
pub use Rattle.std.specs.Prelude.{◌≡◌, ℕ, ◌+◌, ◌-◌, ◌<◌, ◌≤◌, ◌==◌, take, drop, List, [], ◌∷◌, ◌++◌, length, true, false, Some, refl, ◌||◌, cond, Option, None}
pub use Rattle.std.specs.Prelude.{All, nat_lt, Result, Ok, Err, Bool}
pub use Rattle.std.proofs.Common.{sym, ◌∙◌, ap, arith, append-nil, append_assoc, length-drop, length-take-le, subst, inl, inr, rules}
pub use Rattle.std.proofs.Math.Bool.{or_assoc, or-false}
pub use Rattle.std.proofs.lemmas.Bool.{or_from, cases_lt, and_parts}
pub use Rattle.std.proofs.{Math.Seq.take-length, lemmas.Bool.Decides.nat_tests}
pub use Rattle.std.proofs.lemmas.List.{take-append-drop}
pub use Rattle.std.proofs.lemmas.List.Elements.{All-nil, All-head, All-tail, All-weaker}
pub use Rattle.plinq_source.proofs.Followed.{trace_of, followed_by-followed_by, followed_by-open_nil}
pub use Rattle.plinq_source.specs.Trace.{Trace, open_trace, followed_by, ended_trace}
pub use Rattle.plinq_source.specs.declared.ending.Ending.{Ending, TheVariants.End}
pub use Rattle.plinq_lambda.specs.Meaning.{Meaning}
pub use Rattle.plinq_ops.specs.Batches.{full_batches, held_back, batches_from}
pub use Rattle.plinq_ops.specs.Feeding.{is_empty_take}
pub use Rattle.plinq_ops.specs.{Chunk.result_trace, Operator.stages_of}
pub use Rattle.plinq_ops.specs.Pipeline.{stages}
pub use Rattle.plinq_ops.specs.Stage.{Stage, seq, some_takes_none}
pub use Rattle.plinq_ops.specs.Tails.{end_of_result, told_at}
pub use Rattle.plinq_ops.specs.declared.order.Order.{Order, TheVariants.ByKey, TheVariants.ByArrival}
pub use Rattle.plinq_ops.specs.declared.{op.Op.Op, results.ChunkResult.ChunkResult}
pub use Rattle.plinq_ops.proofs.GrowingBatches.{full_batches-append, batches_from-open}
pub use Rattle.plinq_ops.proofs.{ByKey.stages-begun, Counts.some_takes_none-stages_of, Stages.seq-followed_by}
pub use Rattle.plinq_reorder.specs.Buffered.{Buffered, IsFresh, TakesNext, IsAtGap, Inserts}
pub use Rattle.plinq_reorder.specs.Intervals.{Interval, is_within, unbroken_row, first_gap, IsRow}
pub use Rattle.plinq_merge.specs.declared.delivery_fault.DeliveryFault.{DeliveryFault, TheVariants.Memory as NoMemory, TheVariants.Sink as Refusal}
pub use Rattle.plinq_merge.specs.declared.joiner_state.JoinerState.{JoinerState, TheVariants.Open, TheVariants.Decided, TheVariants.Failed as HasFailed}
pub use Rattle.plinq_merge.specs.declared.merge_fault.MergeFault.{MergeFault, TheVariants.Memory, TheVariants.Sink, TheVariants.Twice}
pub use Rattle.plinq_merge.specs.declared.more.More.{More, TheVariants.Yes, TheVariants.No}
pub use Rattle.plinq_merge.specs.declared.{deliver.Deliver.Deliver, row.Row.Row}
pub use Rattle.plinq_merge.specs.{Buffer.held_of, Buffer.size_of, OfferedKeys.is_offered}
pub use Rattle.plinq_merge.specs.Deliveries.{batches-on, held-on}
pub use Rattle.plinq_merge.specs.Delivering.{Line, can_deliver}
pub use Rattle.plinq_merge.specs.Joining.{rest_of, Waits, Joins, JoinsOfferAt}
pub use Rattle.plinq_merge.specs.Mergers.{delivery_fault_of, SendsSome}
pub use Rattle.plinq_merge.specs.Merging.{TakesIn, GoesOn}
pub use Rattle.plinq_merge.specs.Offering.{Brings, OffersAt}
pub use Rattle.plinq_merge.specs.Sending.{Leads, Delivers}
pub use Rattle.plinq_merge.specs.Shown.{waiting_trace, placed_intervals, all_placed, all_told, all_given, ending_at, merged_trace, Merge, answer, shown_batches}
pub use Rattle.plinq_merge.specs.Working.{Work}
