-- Degrees of parallelism.
use Rattle.std.specs.Prelude.{ℕ, Option, Some, None, if◌then◌else◌}
use Rattle.plinq_ops.specs.Query.{is_degree}

-- the degree of a number from 1 to 64
abbrev pub degree_of : ℕ → Option ℕ
degree_of n = if is_degree n then Some n else None
