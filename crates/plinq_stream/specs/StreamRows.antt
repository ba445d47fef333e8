-- Rows of what passes know, and of what the rule of a stream says of them.
use Rattle.std.specs.Prelude.{◌≡◌, refl, ℕ, ◌==◌, List, [], ◌∷◌, ◌++◌, Bool, true, false, cond, suc, length, All}
use Rattle.std.proofs.Common.{ap, arith}
use Rattle.std.proofs.lemmas.Bool.Decides.{nat_tests}
use Rattle.std.proofs.lemmas.List.Elements.{All-head, All-tail}
use Rattle.plinq_stream.specs.Knowing.{with_sent, with_received, without_first, with_first, together}
use Rattle.plinq_stream.specs.Streams.{has, under, Fits, IsStream, MayHandOut, HasReceived, HasReceivedAll}
use Rattle.plinq_stream.specs.declared.pass_knowledge.PassKnowledge.{PassKnowledge}
use Rattle.plinq_stream.specs.declared.sent.Sent.{Sent}

abbrev sent : ℕ → ℕ → Sent ℕ
sent number item = record { number = number; item = item }

-- the first of some items, of which there is one
abbrev first_of : List ℕ → ℕ
first_of [] = 0
first_of (x ∷ xs) = x

-- what a pass of these numbers knows that has sent these and received nothing
abbrev sender : List ℕ → List (Sent ℕ) → PassKnowledge ℕ
sender numbers sent = record { numbers = numbers; sent = sent; receives = false; received = [] }

-- what the pass knows that receives, has taken in the others, and received these
abbrev receiver : List (Sent ℕ) → List (Sent ℕ) → PassKnowledge ℕ
receiver sent received = record { numbers = 0 ∷ 1 ∷ []; sent = sent; receives = true; received = received }

-- ---- what becomes of a pass

it_sends : with_sent (sender (3 ∷ []) (sent 3 5 ∷ [])) (sent 3 6) ≡ sender (3 ∷ []) (sent 3 5 ∷ sent 3 6 ∷ [])
it_sends = refl

it_receives : with_received (receiver [] (sent 0 5 ∷ [])) (sent 1 7) ≡ receiver [] (sent 0 5 ∷ sent 1 7 ∷ [])
it_receives = refl

its_first_number_goes : without_first (sender (3 ∷ 4 ∷ []) (sent 4 5 ∷ [])) ≡ sender (4 ∷ []) (sent 4 5 ∷ [])
its_first_number_goes = refl

the_new_pass_has_it : with_first (receiver (sent 1 5 ∷ []) (sent 1 5 ∷ [])) ≡ sender (0 ∷ []) []
the_new_pass_has_it = refl

two_become_one : together (receiver (sent 0 5 ∷ []) []) (sender (3 ∷ []) (sent 3 6 ∷ []))
    ≡ record { numbers = 0 ∷ 1 ∷ 3 ∷ []; sent = sent 0 5 ∷ sent 3 6 ∷ []; receives = true; received = [] }
two_become_one = refl

-- ---- which number may be handed on

a_number_without_items : MayHandOut (sender (3 ∷ 4 ∷ []) (sent 4 5 ∷ []))
a_number_without_items = record { unsent = unsent; once = once }
  where
    unsent : (n : ℕ) → has n (3 ∷ []) ≡ true → under n (sent 4 5 ∷ []) ≡ []
    unsent n is = grind (arith, nat_tests)

    once : (n : ℕ) → has n (3 ∷ []) ≡ true → has n (4 ∷ []) ≡ false
    once n is = grind (arith, nat_tests)

one_that_sent : MayHandOut (sender (3 ∷ []) (sent 3 5 ∷ [])) → ⊥
one_that_sent may = let bad : 1 ≡ 0 = ap length (may.unsent 3 refl) in absurd (omega (arith, bad))

one_that_it_has_twice : MayHandOut (sender (3 ∷ 4 ∷ 3 ∷ []) []) → ⊥
one_that_it_has_twice may = let bad : true ≡ false = may.once 3 refl in cc

-- ---- what was received is what was sent

all_is_received : under 1 (receiver (sent 1 7 ∷ sent 0 5 ∷ []) (sent 0 5 ∷ sent 1 7 ∷ [])).received ≡ 7 ∷ []
all_is_received = refl

one_is_lost : HasReceivedAll (receiver (sent 0 5 ∷ sent 1 7 ∷ []) (sent 0 5 ∷ [])) → ⊥
one_is_lost all = let bad : 0 ≡ 1 = ap length (all.own 1 refl) in absurd (omega (arith, bad))

one_comes_twice : HasReceivedAll (receiver (sent 0 5 ∷ []) (sent 0 5 ∷ sent 0 5 ∷ [])) → ⊥
one_comes_twice all = let bad : 2 ≡ 1 = ap length (all.own 0 refl) in absurd (omega (arith, bad))

two_come_in_another_order : HasReceivedAll (receiver (sent 0 5 ∷ sent 0 6 ∷ []) (sent 0 6 ∷ sent 0 5 ∷ [])) → ⊥
two_come_in_another_order all = let bad : 6 ≡ 5 = ap first_of (all.own 0 refl) in absurd (omega (arith, bad))

one_comes_under_another_number : HasReceivedAll (receiver (sent 0 5 ∷ []) (sent 1 5 ∷ [])) → ⊥
one_comes_under_another_number all = let bad : 0 ≡ 1 = ap length (all.own 0 refl) in absurd (omega (arith, bad))

one_comes_from_nobody : HasReceivedAll (receiver [] (sent 64 5 ∷ [])) → ⊥
one_comes_from_nobody all = let bad : 1 ≡ 0 = ap length (all.none 64 (omega arith)) in absurd (omega (arith, bad))

one_is_neither_received_nor_there : HasReceived (receiver (sent 0 5 ∷ sent 0 6 ∷ []) (sent 0 5 ∷ [])) [] → ⊥
one_is_neither_received_nor_there it = let bad : 2 ≡ 1 = ap length (it.own 0 refl) in absurd (omega (arith, bad))

-- ---- the rule

module _ {seat : ℕ → ℕ} {reader : ℕ} {received stream : List (Sent ℕ)} where
  a_number_of_another_pass : seat 3 ≡ 1 → Fits seat reader received stream 2 (sender (3 ∷ []) []) → ⊥
  a_number_of_another_pass is fits = absurd (omega (arith, is, fits.alone 3 refl))

  a_number_above_63 : Fits seat reader received stream 2 (sender (64 ∷ []) []) → ⊥
  a_number_above_63 fits = absurd (omega (arith, fits.below 64 refl))

  sent_and_not_there : under 3 stream ≡ [] → Fits seat reader received stream 2 (sender (3 ∷ []) (sent 3 5 ∷ [])) → ⊥
  sent_and_not_there is fits = let same : under 3 stream ≡ 5 ∷ [] = fits.sent 3 refl in absurd (cc)

  there_and_not_sent : under 3 stream ≡ 5 ∷ [] → Fits seat reader received stream 2 (sender (3 ∷ []) []) → ⊥
  there_and_not_sent is fits = let same : under 3 stream ≡ [] = fits.sent 3 refl in absurd (cc)

  sent_under_no_number_of_its_own : Fits seat reader received stream 2 (sender (3 ∷ []) (sent 4 5 ∷ [])) → ⊥
  sent_under_no_number_of_its_own fits = let bad : 1 ≡ 0 = ap length (fits.only 4 refl) in absurd (omega (arith, bad))

  received_less_than_was : received ≡ sent 0 5 ∷ [] → Fits seat reader received stream 0 (receiver [] []) → ⊥
  received_less_than_was is fits = let same : [] ≡ received = (fits.received_all refl).1 in absurd (cc)

  a_second_receiver : reader ≡ 0 → Fits seat reader received stream 1 (receiver [] []) → ⊥
  a_second_receiver is fits = absurd (omega (arith, is, (fits.received_all refl).0))

an_item_of_nobody : IsStream (λ (x : ℕ). x ≡ 5) (sent 4 5 ∷ []) [] → ⊥
an_item_of_nobody rule = not_here rule.received (rule.others 4 (λ pass a is. absurd (cc)))
  where
    later : (v : Bool) (x : ℕ) (xs : List ℕ) → (xs ≡ [] → ⊥) → cond v (x ∷ xs) xs ≡ [] → ⊥
    later true x xs rest none = let bad : suc (length xs) ≡ 0 = ap length none in absurd (omega (arith, bad))
    later false x xs rest none = rest none

    not_here : (ss : List (Sent ℕ)) → under 4 (ss ++ sent 4 5 ∷ []) ≡ [] → ⊥
    not_here [] none = let bad : 1 ≡ 0 = ap length none in absurd (omega (arith, bad))
    not_here (s ∷ ss) none = later (s.number == 4) s.item (under 4 (ss ++ sent 4 5 ∷ [])) (not_here ss) none

an_item_that_is_not_carried : IsStream (λ (x : ℕ). x ≡ 5) (sent 0 6 ∷ []) [] → ⊥
an_item_that_is_not_carried rule = not_here rule.received rule.carried
  where
    not_here : (ss : List (Sent ℕ)) → All (λ s. s.item ≡ 5) (ss ++ sent 0 6 ∷ []) → ⊥
    not_here [] all = absurd (omega (arith, All-head (λ (s : Sent ℕ). s.item ≡ 5) (sent 0 6) [] all))
    not_here (s ∷ ss) all = not_here ss (All-tail (λ (s : Sent ℕ). s.item ≡ 5) s (ss ++ sent 0 6 ∷ []) all)
