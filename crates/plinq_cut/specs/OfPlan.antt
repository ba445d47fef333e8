-- The keys that end the run of a plan over a source.
use Rattle.std.specs.Prelude.{◌≡◌, ℕ, Bool}
use Rattle.plinq_source.specs.Trace.{Trace}
use Rattle.plinq_lambda.specs.Meaning.{Meaning}
use Rattle.plinq_keyed.specs.Keys.{is_among}
use Rattle.plinq_ops.specs.declared.plan.Plan.{Plan}
use Rattle.plinq_ops.specs.Cut.{stop_keys}

-- the keys that end the run are those whose fragments do
abbrev pub AreStopKeys : {L T : Type 0} → (L → Meaning T) → Plan L → Trace T → (ℕ → Bool) → Type 0
AreStopKeys meaning plan t stops_at = (key : ℕ) → stops_at key ≡ is_among (stop_keys meaning plan.worker.now 0 t.items) key
