-- A block of items at a lambda: the items that come of it, up to the first that faults, and the code of that fault.
use Rattle.std.specs.Prelude.{◌≡◌, refl, ℕ, zero, suc, nat_lt, List, [], ◌∷◌, Bool, true, false, Option, None, Some, Result, Ok, Err}

pub record BlockResult (T : Type 0) : Type 0 where
  pub items : List T
  pub fault : Option ℕ

-- a mapped item before those of the rest; a fault ends it
abbrev pub mapped_from : {T : Type 0} → Result T ℕ → BlockResult T → BlockResult T
mapped_from (Ok y) rest = record { items = y ∷ rest.items; fault = rest.fault }
mapped_from (Err code) rest = record { items = []; fault = Some code }

-- each item mapped
abbrev pub mapped_block : {T : Type 0} → (T → Result T ℕ) → List T → BlockResult T
mapped_block map [] = record { items = []; fault = None }
mapped_block map (x ∷ xs) = mapped_from (map x) (mapped_block map xs)

-- an item before those of the rest, if it passes; a fault ends it
abbrev pub filtered_from : {T : Type 0} → Result Bool ℕ → T → BlockResult T → BlockResult T
filtered_from (Ok true) x rest = record { items = x ∷ rest.items; fault = rest.fault }
filtered_from (Ok false) x rest = rest
filtered_from (Err code) x rest = record { items = []; fault = Some code }

-- the items that pass
abbrev pub filtered_block : {T : Type 0} → (T → Result Bool ℕ) → List T → BlockResult T
filtered_block test [] = record { items = []; fault = None }
filtered_block test (x ∷ xs) = filtered_from (test x) x (filtered_block test xs)

-- an item that passes, before those of the rest; one that fails or faults ends it
abbrev pub passing_from : {T : Type 0} → Result Bool ℕ → T → BlockResult T → BlockResult T
passing_from (Ok true) x rest = record { items = x ∷ rest.items; fault = rest.fault }
passing_from (Ok false) x rest = record { items = []; fault = None }
passing_from (Err code) x rest = record { items = []; fault = Some code }

-- the items before the first that fails
abbrev pub passing_block : {T : Type 0} → (T → Result Bool ℕ) → List T → BlockResult T
passing_block test [] = record { items = []; fault = None }
passing_block test (x ∷ xs) = passing_from (test x) x (passing_block test xs)

-- the number less one, which faults with 1 at 0
abbrev less_one : ℕ → Result ℕ ℕ
less_one zero = Err 1
less_one (suc n) = Ok n

-- whether a number is below 3; 0 faults with 1
abbrev below_three : ℕ → Result Bool ℕ
below_three zero = Err 1
below_three (suc n) = Ok (nat_lt (suc n) 3)

all_are_mapped : mapped_block less_one (5 ∷ 1 ∷ []) ≡ record { items = 4 ∷ 0 ∷ []; fault = None }
all_are_mapped = refl

-- nothing after the first fault stands
mapped_up_to_a_fault : mapped_block less_one (5 ∷ 0 ∷ 2 ∷ []) ≡ record { items = 4 ∷ []; fault = Some 1 }
mapped_up_to_a_fault = refl

those_that_pass : filtered_block below_three (5 ∷ 1 ∷ 2 ∷ 3 ∷ []) ≡ record { items = 1 ∷ 2 ∷ []; fault = None }
those_that_pass = refl

-- the item that faults is dropped
filtered_up_to_a_fault : filtered_block below_three (1 ∷ 5 ∷ 0 ∷ 2 ∷ []) ≡ record { items = 1 ∷ []; fault = Some 1 }
filtered_up_to_a_fault = refl

-- nothing after the first that fails is tested
those_before_one_fails : passing_block below_three (1 ∷ 2 ∷ 5 ∷ 0 ∷ []) ≡ record { items = 1 ∷ 2 ∷ []; fault = None }
those_before_one_fails = refl

those_before_a_fault : passing_block below_three (1 ∷ 0 ∷ 5 ∷ []) ≡ record { items = 1 ∷ []; fault = Some 1 }
those_before_a_fault = refl
