-- What records hand out, and the results that are of it.
use Rattle.std.specs.Prelude.{◌≡◌, ◌+◌, ◌≤◌, List, length, take, true, All}
use Rattle.plinq_source.specs.Trace.{Trace}
use Rattle.plinq_keyed.specs.declared.record.Record.{Record}
use Rattle.plinq_ops.specs.declared.results.ChunkResult.{ChunkResult}
use Rattle.plinq_crew.specs.Working.{IsOfOne}
use Rattle.plinq_run.specs.Handed.{is_end}

-- a result that was offered: it is of the chunk of one of these records
abbrev pub IsOffered : {T : Type 0} → (ChunkResult T → Type 0) → List Record → ChunkResult T → Type 0
IsOffered IsResult records r = IsResult r × IsOfOne records r

-- the first items of a source have all that these records hand out
pub record Covers {T : Type 0} (t : Trace T) (records : List Record) (first : Trace T) : Type 0 where
  pub items : first.items ≡ take (length first.items) t.items
  pub within : length first.items ≤ length t.items
  pub ends : All (λ r. r.first + r.count ≤ length first.items) records
  pub told : All (λ r. is_end r.tail ≡ true → first.ending ≡ t.ending) records
