-- The words that contracts cite, each from the crate that has it.
pub use Rattle.plinq_source.specs.Trace.{Trace, ended_trace, open_trace, list_ending}
pub use Rattle.plinq_source.specs.Range.{range_items}
pub use Rattle.plinq_slice.specs.Lines.{IsOfLines}
pub use Rattle.plinq_lambda.specs.Meaning.{Meaning, most_items}
pub use Rattle.plinq_lambda.specs.Formula.{formula_meaning}
pub use Rattle.plinq_keyed.specs.History.{IsLegalHistory}
pub use Rattle.plinq_aggregate.specs.Folding.{Folding, IsFolding, aggregate_value}
pub use Rattle.plinq_aggregate.specs.Numbers.{picking}
pub use Rattle.plinq_aggregate.specs.Lawful.{picking-lawful}
pub use Rattle.plinq_ops.specs.Query.{QueryView, empty_query, merge_in_force}
pub use Rattle.plinq_ops.specs.Sequential.{answer_of}
pub use Rattle.plinq_ops.specs.Answer.{MayAnswer}
pub use Rattle.plinq_ops.specs.Batches.{batches}
pub use Rattle.plinq_ops.specs.Feeding.{is_empty_take}
pub use Rattle.plinq_merge.specs.Sending.{Leads, TakesBeginning, RefusesNext, TakesEach}
pub use Rattle.plinq_run.specs.Endings.{reported_ending, RunsDecided, RunsDecidedWith}
pub use Rattle.plinq_run.specs.Handed.{has_close}
pub use Rattle.plinq_run.specs.Headline.{answers, HasDelivered}
pub use Rattle.plinq_run.specs.Reports.{Reports}
pub use Rattle.plinq_run.specs.Stopping.{ReportsSome, ReportsWith}
pub use Rattle.plinq_run.specs.Aggregates.{Aggregates, AggregatesSome}
pub use Rattle.plinq_collect.specs.Calling.{CallsSome, CallsAll, NoRoomOrRefused}
pub use Rattle.plinq_collect.specs.Equal.{IsTestOf}
pub use Rattle.plinq_collect.specs.ItemFoldings.{first_of, has_item, has_none, wrapped_count}
pub use Rattle.plinq_collect.specs.Telling.{items_of, IsGathered, GathersSome, IsShort, TellsSome, LacksRoom}
pub use Rattle.plinq_closures.specs.Asked.{CantBuild, HasNone, HasCalled, HasCalledAll, Tells, LacksRoomAlone, LacksRoomOrRefused}
pub use Rattle.plinq_closures.specs.Functions.{maps, tests}
