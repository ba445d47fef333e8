-- The arithmetic of the workloads.
use Rattle.std.specs.Prelude.{ℕ, ◌+◌, ◌*◌, ◌%◌, ◌^◌, ℤ, zero, suc, bit_xor}
use Rattle.std.specs.Int.{w64, cast_unsigned, cast_signed}

-- one turn
abbrev pub turn : ℕ → ℕ → ℕ
turn h i = (bit_xor h i * 6364136223846793005 % 2 ^ 64 + 1442695040888963407) % 2 ^ 64

-- n turns, from h
abbrev pub spun : ℕ → ℕ → ℕ
spun h zero = h
spun h (suc n) = turn (spun h n) n

-- an element after n turns
abbrev pub spin : ℤ → ℕ → ℤ
spin x n = cast_signed w64 (spun (cast_unsigned w64 x) n)

-- a sum that depends on the order of the elements
abbrev pub mix : ℕ → ℤ → ℕ
mix sum x = (sum * 31 % 2 ^ 64 + cast_unsigned w64 x) % 2 ^ 64
