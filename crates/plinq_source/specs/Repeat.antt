-- Repeats: one value again and again.
use Rattle.std.specs.Prelude.{◌≡◌, ℕ, ◌+◌, ◌^◌, Bool, true, false, nat_le, refl}

-- at most 2^40 items
abbrev pub is_repeat : ℕ → Bool
is_repeat count = nat_le count (2 ^ 40)

pub is_repeat-most : is_repeat (2 ^ 40) ≡ true
is_repeat-most = refl

pub is_repeat-many : is_repeat (2 ^ 40 + 1) ≡ false
is_repeat-many = refl
