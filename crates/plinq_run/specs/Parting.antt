-- What a run that folds its answer's parts gives its taker: their accumulators, in order.
use Rattle.std.specs.Prelude.{◌≡◌, List, ◌++◌, Option, Some, None, Result, Ok, Err}
use Rattle.std.specs.List.{fold}
use Rattle.plinq_source.specs.declared.ending.Ending.{Ending}
use Rattle.plinq_source.specs.Trace.{Trace}
use Rattle.plinq_aggregate.specs.Folding.{Folding, fold_of}
use Rattle.plinq_merge.specs.declared.delivery_fault.DeliveryFault.{DeliveryFault}
use Rattle.plinq_merge.specs.declared.delivery_fault.DeliveryFault.TheVariants.{Memory, Sink}
use Rattle.plinq_run.specs.declared.run_fault.RunFault.{RunFault}
use Rattle.plinq_run.specs.Runs.{Cause, SinkRefused, Other, cause_of}

-- what a trace that was taken says of why a run breaks off: what ended or ran out of memory has another cause than a sink
abbrev pub Breaks : Result (Option Ending) DeliveryFault → Cause → Type 0
Breaks (Ok None) cause = ⊥
Breaks (Ok (Some e)) cause = cause ≡ Other
Breaks (Err Memory) cause = cause ≡ Other
Breaks (Err (Sink code)) cause = cause ≡ SinkRefused code

module _ {T A U : Type 0} (f : Folding T A U) where
  -- accumulators stand for items: combined after those of any others, they are that of all
  abbrev pub StandFor : List T → List A → Type 0
  StandFor xs accs = (before : List T) → fold f.combine (fold_of f before) accs ≡ fold_of f (before ++ xs)

  -- a trace of accumulators stands for one of items, and ends so
  pub record IsFolded (t : Trace T) (u : Trace A) : Type 0 where
    pub items : StandFor t.items u.items
    pub ending : u.ending ≡ t.ending

module _ {T A U W O : Type 0} (f : Folding T A U) (made : W → O → Trace A → Result (Option Ending) DeliveryFault → W → O → Type 0) where
  -- a taker was given accumulators that stand for this answer, and that came out so
  pub record WasGiven (u : Trace T) (a : W) (x : O) (how : Result (Option Ending) DeliveryFault) (y : O) : Type 0 where
    pub parts : Trace A
    pub folds : IsFolded f u parts
    pub last : W
    pub taken : made a x parts how last y

  -- those of one of these answers, which the taker ended so; or it broke off, for the reason that the fault gives
  abbrev pub GivesSome : (Trace T → Type 0) → W → O → Result Ending RunFault → O → Type 0
  GivesSome IsAnswer a x (Ok e) y = (u : Trace T) × (IsAnswer u) × WasGiven u a x (Ok (Some e)) y
  GivesSome IsAnswer a x (Err fault) y =
      (u : Trace T) × (IsAnswer u) × (how : Result (Option Ending) DeliveryFault) × (WasGiven u a x how y) × Breaks how (cause_of fault)
