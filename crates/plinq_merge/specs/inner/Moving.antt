-- How far a joining has come that gives its taker one part after another.
use Rattle.std.specs.Prelude.{◌≡◌, List, [], ◌∷◌, ◌++◌, Option, None, Result, Ok}
use Rattle.plinq_source.specs.declared.ending.Ending.{Ending}
use Rattle.plinq_source.specs.Trace.{Trace, open_trace, followed_by}
use Rattle.plinq_ops.specs.declared.results.ChunkResult.{ChunkResult}
use Rattle.plinq_merge.specs.declared.delivery_fault.DeliveryFault.{DeliveryFault}
use Rattle.plinq_merge.specs.declared.joining.Joining.{Joining}
use Rattle.plinq_merge.specs.Merging.{Holds}

module _ {W O T : Type 0} (made : W → O → Trace T → Result (Option Ending) DeliveryFault → W → O → Type 0) where
  -- a result of new keys was joined, and the taker has taken the first items that the offers gain by it: `hand` comes next, and
  -- after it what the row gives
  pub record HasMoved (w : Joining W T) (r : ChunkResult T) (y : O) (hand : Trace T) (w' : Joining W T) (y' : O) : Type 0 where
    pub items : List T
    pub taken : made w.taker y (open_trace items) (Ok None) w'.taker y'
    pub order : w'.order ≡ w.order
    pub holds : (offers : List (ChunkResult T)) (gone : Trace T) → Holds w.order w.row offers gone
        → Holds w.order w'.row (offers ++ r ∷ []) (followed_by (followed_by gone (open_trace items)) hand)
