-- What a fold of an answer has come to.
use Rattle.std.specs.Prelude.{◌≡◌, Some}
use Rattle.plinq_source.specs.Trace.{Trace}
use Rattle.plinq_aggregate.specs.Folding.{Folding, fold_of}
use Rattle.plinq_run.specs.declared.combined.Combined.{Combined}

-- the accumulator is that of an answer's items, which ended so
pub record HasFinished {T A O : Type 0} (f : Folding T A O) (u : Trace T) (made : Combined A) : Type 0 where
  pub ending : u.ending ≡ Some made.ending
  pub acc : made.acc ≡ fold_of f u.items
