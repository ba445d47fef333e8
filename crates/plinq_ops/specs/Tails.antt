-- What a result's tail says of where its source ends.
use Rattle.std.specs.Prelude.{◌≡◌, refl, ℕ, ◌+◌, length, Option, Some, None}
use Rattle.plinq_source.specs.declared.ending.Ending.{Ending}
use Rattle.plinq_source.specs.declared.ending.Ending.TheVariants.{End, Refused}
use Rattle.plinq_source.specs.Trace.{Trace}
use Rattle.plinq_keyed.specs.declared.tail.Tail.{Tail}
use Rattle.plinq_keyed.specs.declared.tail.Tail.TheVariants.{Ended, Refused as TailRefused, Closed}
use Rattle.plinq_ops.specs.declared.results.ChunkResult.{ChunkResult}

-- the first key after those of a result
abbrev pub end_of_result : {T : Type 0} → ChunkResult T → ℕ
end_of_result r = r.first + r.count

-- where the source ends, and how, if the tail after these keys says so
abbrev pub told_at : ℕ → Option Tail → Option (ℕ × Ending)
told_at key None = None
told_at key (Some Ended) = Some (key, End)
told_at key (Some (TailRefused code)) = Some (key, Refused code)
told_at key (Some Closed) = None

-- the source ends there, and so
abbrev pub EndsAt : {T : Type 0} → Trace T → ℕ × Ending → Type 0
EndsAt t at = (at.0 ≡ length t.items) × (t.ending ≡ Some at.1)

-- ---- worked rows

ended_tells_the_end : told_at 7 (Some Ended) ≡ Some (7, End)
ended_tells_the_end = refl

refused_tells_its_code : told_at 7 (Some (TailRefused 3)) ≡ Some (7, Refused 3)
refused_tells_its_code = refl

closed_tells_nothing : told_at 7 (Some Closed) ≡ None
closed_tells_nothing = refl
