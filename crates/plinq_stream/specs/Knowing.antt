-- What a pass knows, and what becomes of it at each step.
use Rattle.std.specs.Prelude.{◌≡◌, refl, ℕ, ◌+◌, zero, suc, List, [], ◌∷◌, ◌++◌, take, drop, true, false}
use Rattle.plinq_stream.specs.declared.pass_knowledge.PassKnowledge.{PassKnowledge}
use Rattle.plinq_stream.specs.declared.sent.Sent.{Sent}

-- so many numbers from that one on
abbrev pub numbers_from : ℕ → ℕ → List ℕ
numbers_from n zero = []
numbers_from n (suc count) = n ∷ numbers_from (n + 1) count

three_numbers : numbers_from 4 3 ≡ 4 ∷ 5 ∷ 6 ∷ []
three_numbers = refl

module _ {T : Type 0} where
  -- a pass that has no number, and has sent and received nothing: one that was taken in
  abbrev pub nothing_known : PassKnowledge T
  nothing_known = record { numbers = []; sent = []; receives = false; received = [] }

  -- the first pass
  abbrev pub first_known : PassKnowledge T
  first_known = record { numbers = numbers_from 0 64; sent = []; receives = true; received = [] }

  abbrev pub with_sent : PassKnowledge T → Sent T → PassKnowledge T
  with_sent a s = record { numbers = a.numbers; sent = a.sent ++ s ∷ []; receives = a.receives; received = a.received }

  abbrev pub with_received : PassKnowledge T → Sent T → PassKnowledge T
  with_received a s = record { numbers = a.numbers; sent = a.sent; receives = a.receives; received = a.received ++ s ∷ [] }

  -- the first number was handed on, and a new pass has it
  abbrev pub without_first : PassKnowledge T → PassKnowledge T
  without_first a = record { numbers = drop 1 a.numbers; sent = a.sent; receives = a.receives; received = a.received }

  abbrev pub with_first : PassKnowledge T → PassKnowledge T
  with_first a = record { numbers = take 1 a.numbers; sent = []; receives = false; received = [] }

  -- what a pass knows that has taken in another: the numbers of both, and what both sent
  abbrev pub together : PassKnowledge T → PassKnowledge T → PassKnowledge T
  together a b = record { numbers = a.numbers ++ b.numbers; sent = a.sent ++ b.sent; receives = a.receives; received = a.received }
