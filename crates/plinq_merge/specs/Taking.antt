-- Taking: what takes the items whose turn has come.
use Rattle.std.specs.Prelude.{List, [], Option, Some, None, Result, Ok, Err}
use Rattle.plinq_source.specs.declared.ending.Ending.{Ending}
use Rattle.plinq_source.specs.Trace.{Trace, open_trace, followed_by}
use Rattle.plinq_merge.specs.declared.delivery_fault.DeliveryFault.{DeliveryFault}
use Rattle.plinq_merge.specs.declared.delivery_fault.DeliveryFault.TheVariants.{Memory}

-- traces are taken one after another: one goes on after an open one, an ended or broken one is one of whatever comes after
-- it, and an open one may break off where memory runs out
pub record IsTaking {W O T : Type 0} (made : W → O → Trace T → Result (Option Ending) DeliveryFault → W → O → Type 0) : Type 0 where
  pub begins : (a : W) (x : O) → made a x (open_trace []) (Ok None) a x
  pub goes_on : (a : W) (x : O) (xs : List T) (b : W) (y : O) (t : Trace T) (r : Result (Option Ending) DeliveryFault) (c : W) (z : O)
      → made a x (open_trace xs) (Ok None) b y → made b y t r c z → made a x (followed_by (open_trace xs) t) r c z
  pub ends : (a : W) (x : O) (t : Trace T) (e : Ending) (b : W) (y : O) (rest : Trace T) → made a x t (Ok (Some e)) b y
      → made a x (followed_by t rest) (Ok (Some e)) b y
  pub breaks : (a : W) (x : O) (t : Trace T) (fault : DeliveryFault) (b : W) (y : O) (rest : Trace T) → made a x t (Err fault) b y
      → made a x (followed_by t rest) (Err fault) b y
  pub stops : (a : W) (x : O) (xs : List T) (b : W) (y : O) (rest : Trace T) → made a x (open_trace xs) (Ok None) b y
      → made a x (followed_by (open_trace xs) rest) (Err Memory) b y
