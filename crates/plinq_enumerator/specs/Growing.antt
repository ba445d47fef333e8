-- How chunks grow.
use Rattle.std.specs.Prelude.{◌≡◌, ℕ, ◌*◌, ◌/◌, ◌^◌, ◌≤◌, ◌==◌, ◌||◌, min, nat_lt, if◌then◌else◌, Result, Ok, Err, refl}
use Rattle.plinq_enumerator.specs.declared.growth_fault.GrowthFault.{GrowthFault}
use Rattle.plinq_enumerator.specs.declared.growth_fault.GrowthFault.TheVariants.{Zero, FirstAboveMax, MaxTooLarge}

-- the size of the first chunks, after how many chunks it doubles, and the largest size
pub record GrowthRule : Type 0 where
  pub first : ℕ
  pub repeat : ℕ
  pub max : ℕ

-- none of the three is 0, the first size is at most the largest, and that at most 65,536
pub record IsGrowth (first repeat max : ℕ) : Type 0 where
  pub some_first : 1 ≤ first
  pub some_repeat : 1 ≤ repeat
  pub first_within : first ≤ max
  pub max_within : max ≤ 65536

-- the rule of three numbers, or the first of its faults
abbrev pub growth_rule : ℕ → ℕ → ℕ → Result GrowthRule GrowthFault
growth_rule first repeat max =
    if (first == 0) || (repeat == 0) || (max == 0) then Err Zero
    else if nat_lt max first then Err FirstAboveMax
    else if nat_lt 65536 max then Err MaxTooLarge
    else Ok (record { first = first; repeat = repeat; max = max })

-- the size of chunk number i, the first being number 0
abbrev pub size_at : GrowthRule → ℕ → ℕ
size_at rule i = min rule.max (rule.first * 2 ^ (i / rule.repeat))

abbrev by_threes : GrowthRule
by_threes = record { first = 1; repeat = 3; max = 512 }

size_at-before : size_at by_threes 2 ≡ 1
size_at-before = refl

size_at-doubled : size_at by_threes 3 ≡ 2
size_at-doubled = refl

size_at-largest : size_at by_threes 100 ≡ 512
size_at-largest = refl

-- chunks of three items twice, then of six twice, and no larger than ten
abbrev from_three : GrowthRule
from_three = record { first = 3; repeat = 2; max = 10 }

first_of_three : size_at from_three 1 ≡ 3
first_of_three = refl

six_after_two : size_at from_three 2 ≡ 6
six_after_two = refl

ten_and_not_twelve : size_at from_three 4 ≡ 10
ten_and_not_twelve = refl

three_numbers : growth_rule 3 2 10 ≡ Ok from_three
three_numbers = refl

the_largest : growth_rule 1 1 65536 ≡ Ok (record { first = 1; repeat = 1; max = 65536 })
the_largest = refl

none_at_first : growth_rule 0 2 10 ≡ Err Zero
none_at_first = refl

doubled_after_none : growth_rule 3 0 10 ≡ Err Zero
doubled_after_none = refl

none_at_most : growth_rule 3 2 0 ≡ Err Zero
none_at_most = refl

first_above_max : growth_rule 11 2 10 ≡ Err FirstAboveMax
first_above_max = refl

above_the_largest : growth_rule 3 2 65537 ≡ Err MaxTooLarge
above_the_largest = refl

-- of two faults the first is answered
both_too_large : growth_rule 65538 2 65537 ≡ Err FirstAboveMax
both_too_large = refl
