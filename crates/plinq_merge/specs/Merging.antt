-- Which lists of offers a row of keys stands for.
use Rattle.std.specs.Prelude.{◌≡◌, ◌<◌, List, [], ◌∷◌, ◌++◌, Option, None, All}
use Rattle.plinq_source.specs.declared.ending.Ending.{Ending}
use Rattle.plinq_source.specs.Trace.{Trace, followed_by}
use Rattle.plinq_ops.specs.declared.order.Order.{Order}
use Rattle.plinq_ops.specs.declared.results.ChunkResult.{ChunkResult}
use Rattle.plinq_ops.specs.Stage.{Stage, seq}
use Rattle.plinq_reorder.specs.Intervals.{Interval, IsRow}
use Rattle.plinq_merge.specs.declared.row.Row.{Row}
use Rattle.plinq_merge.specs.Shown.{all_placed, all_told, all_given, arrived_trace}

-- the row stands for these offers: `done` of their intervals have gone, and `gone` is what these and what was merged at
-- once gave
pub record Holds {T : Type 0} (order : Order) (row : Row T) (offers : List (ChunkResult T)) (gone : Trace T) : Type 0 where
  pub done : List (Interval (Trace T))
  pub placed : all_placed order [] offers ≡ done ++ row.buffer.held
  pub is_row : IsRow 0 done row.buffer.next
  pub before : All (λ p. p.0 < row.buffer.next) done
  pub source_end : all_told None offers ≡ row.source_end
  pub gave : followed_by (arrived_trace order offers) (all_given done) ≡ gone

-- the row has taken in one result more, with this trace in hand
abbrev pub TakesIn : {T : Type 0} → Order → Row T → ChunkResult T → Trace T → Row T → Type 0
TakesIn {T} order before r hand after =
    (offers : List (ChunkResult T)) (gone : Trace T) → Holds order before offers gone → Holds order after (offers ++ r ∷ []) (followed_by gone hand)

-- the trace was worked off: it gave `out` and this ending, and where there is none the operators go on
pub record GoesOn {T : Type 0} (now : List (Stage T)) (t : Trace T) (out : List T) (e : Option Ending) (now' : List (Stage T)) : Type 0 where
  pub answers : (rest : Trace T) → seq now (followed_by t rest) ≡ followed_by (record { items = out; ending = e }) (seq now' rest)
