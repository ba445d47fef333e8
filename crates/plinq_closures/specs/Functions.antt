-- Functions as what a lambda does.
use Rattle.std.specs.Prelude.{ℕ, Bool, Result, Err}
use Rattle.plinq_lambda.specs.Meaning.{Meaning}

-- it tests, and nothing else
abbrev pub tests : {T : Type 0} → (T → Result Bool ℕ) → Meaning T
tests p = record { map = λ x. Err 0; test = p; expand = λ x. Err 0 }

-- it maps, and nothing else
abbrev pub maps : {T : Type 0} → (T → Result T ℕ) → Meaning T
maps m = record { map = m; test = λ x. Err 0; expand = λ x. Err 0 }
