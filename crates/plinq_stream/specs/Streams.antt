-- The rule of a stream: what holds between any two steps of any passes.
use Rattle.std.specs.Prelude.{◌≡◌, refl, ℕ, ◌<◌, ◌≤◌, ◌==◌, List, [], ◌∷◌, ◌++◌, take, drop, Bool, true, false, if◌then◌else◌, All}
use Rattle.std.specs.List.{list_any}
use mathlib.Core.Option.{some}
use lib.ListN.{get_elem?}
use Rattle.plinq_stream.specs.declared.pass_knowledge.PassKnowledge.{PassKnowledge}
use Rattle.plinq_stream.specs.declared.sent.Sent.{Sent}

-- whether a number is one of these
abbrev pub has : ℕ → List ℕ → Bool
has n numbers = list_any (λ m. m == n) numbers

-- the items that were sent under a number, in order
abbrev pub under : {T : Type 0} → ℕ → List (Sent T) → List T
under n [] = []
under n (s ∷ ss) = if s.number == n then s.item ∷ under n ss else under n ss

module _ {T : Type 0} where
  -- What holds of one pass. `seat` says which pass has each number, and `stream` is what was received and then what the
  -- queue holds.
  pub record Fits (seat : ℕ → ℕ) (reader : ℕ) (received stream : List (Sent T)) (pass : ℕ) (a : PassKnowledge T) : Type 0 where
    -- its numbers are its own
    pub alone : (n : ℕ) → has n a.numbers ≡ true → seat n ≡ pass
    -- and below 64
    pub below : (n : ℕ) → has n a.numbers ≡ true → n < 64
    -- under each of them the stream has what it sent, in that order
    pub sent : (n : ℕ) → has n a.numbers ≡ true → under n stream ≡ under n a.sent
    -- and it sent nothing under any other
    pub only : (n : ℕ) → has n a.numbers ≡ false → under n a.sent ≡ []
    -- the one that receives has received all that was
    pub received_all : a.receives ≡ true → (pass ≡ reader) × (a.received ≡ received)

  -- no pass has this number
  abbrev pub IsNobodys : List (PassKnowledge T) → ℕ → Type 0
  IsNobodys views n = (pass : ℕ) (a : PassKnowledge T) → get_elem? views pass ≡ some a → has n a.numbers ≡ false

  pub record IsStream (Carried : T → Type 0) (items : List (Sent T)) (views : List (PassKnowledge T)) : Type 0 where
    pub received : List (Sent T)
    pub seat : ℕ → ℕ
    pub reader : ℕ
    pub each : (pass : ℕ) (a : PassKnowledge T) → get_elem? views pass ≡ some a → Fits seat reader received (received ++ items) pass a
    pub others : (n : ℕ) → IsNobodys views n → under n (received ++ items) ≡ []
    pub carried : All (λ s. Carried s.item) (received ++ items)

  -- the pass has sent nothing under its first number, which it has once
  pub record MayHandOut (a : PassKnowledge T) : Type 0 where
    pub unsent : (n : ℕ) → has n (take 1 a.numbers) ≡ true → under n a.sent ≡ []
    pub once : (n : ℕ) → has n (take 1 a.numbers) ≡ true → has n (drop 1 a.numbers) ≡ false

  -- what was sent under each of the pass's numbers is what it received under it, and then what these have; no pass has a number
  -- from 64 on, under which there is nothing
  pub record HasReceived (a : PassKnowledge T) (items : List (Sent T)) : Type 0 where
    pub own : (n : ℕ) → has n a.numbers ≡ true → under n a.sent ≡ under n (a.received ++ items)
    pub none : (n : ℕ) → 64 ≤ n → under n (a.received ++ items) ≡ []

  -- what was sent under each of the pass's numbers is what it received under it, in that order, and it received nothing under a
  -- number that no pass has
  pub record HasReceivedAll (a : PassKnowledge T) : Type 0 where
    pub own : (n : ℕ) → has n a.numbers ≡ true → under n a.received ≡ under n a.sent
    pub none : (n : ℕ) → 64 ≤ n → under n a.received ≡ []

-- ---- worked rows

-- two workers, whose items come in turn
abbrev in_turn : List (Sent ℕ)
in_turn = record { number = 0; item = 5 } ∷ record { number = 1; item = 7 } ∷ record { number = 0; item = 6 } ∷ []

those_of_one : under 0 in_turn ≡ 5 ∷ 6 ∷ []
those_of_one = refl

those_of_the_other : under 1 in_turn ≡ 7 ∷ []
those_of_the_other = refl

those_of_nobody : under 2 in_turn ≡ []
those_of_nobody = refl

one_of_two_numbers : has 4 (3 ∷ 4 ∷ []) ≡ true
one_of_two_numbers = refl

none_of_two_numbers : has 5 (3 ∷ 4 ∷ []) ≡ false
none_of_two_numbers = refl
