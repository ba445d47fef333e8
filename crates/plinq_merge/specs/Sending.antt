-- Sending: what a sink gets, batch by batch.
use Rattle.std.specs.Prelude.{◌≡◌, ℕ, refl, List, [], ◌∷◌, ◌++◌, length, get_or, Option, Result, MatchResult, OnOk, map, Err}
use Rattle.std.proofs.Common.{arith, sym, ◌∙◌, ap, subst}
use Rattle.std.proofs.lemmas.List.{length-append}
use Rattle.plinq_ops.specs.Batches.{full_batches, held_back}
use Rattle.plinq_merge.specs.declared.delivery_fault.DeliveryFault.{DeliveryFault}
use Rattle.plinq_merge.specs.declared.delivery_fault.DeliveryFault.TheVariants.{Memory, Sink}

-- the sink takes these batches one after another, and that leads from s, the sink before them, to s', the sink after them
abbrev pub Leads : {K B : Type 0} → (K → B → K → Type 0) → K → List B → K → Type 0
Leads accepts s [] s' = s' ≡ s
Leads {K} accepts s (b ∷ bs) s' = (m : K) × (accepts s b m) × Leads accepts m bs s'

-- the sink has taken a beginning of these batches: perhaps none, perhaps all
abbrev pub TakesBeginning : {K B : Type 0} → (K → B → K → Type 0) → K → List B → K → Type 0
TakesBeginning {K} {B} accepts s bs s' = (sent : List B) × (rest : List B) × (bs ≡ sent ++ rest) × Leads accepts s sent s'

-- the sink has taken a beginning of these batches, perhaps none, and refused the next one with this code
abbrev pub RefusesNext : {K B : Type 0} → (K → B → K → Type 0) → (K → B → ℕ → K → Type 0) → K → List B → ℕ → K → Type 0
RefusesNext {K} {B} accepts refuses s bs code s' =
    (sent : List B) × (next : B) × (rest : List B) × (m : K) × (bs ≡ sent ++ next ∷ rest) × (Leads accepts s sent m) × refuses m next code s'

-- a delivery broke off: the sink refused the next batch, or no more was tried, for whatever other fault `Memory` stands
abbrev pub IsCutOff : {K B : Type 0} → (K → B → K → Type 0) → (K → B → ℕ → K → Type 0) → K → List B → DeliveryFault → K → Type 0
IsCutOff accepts refuses s bs Memory s' = TakesBeginning accepts s bs s'
IsCutOff accepts refuses s bs (Sink code) s' = RefusesNext accepts refuses s bs code s'

-- all of these batches are delivered, or the first of them are and the fault says why not all
abbrev pub Delivers : {K B A : Type 0} → (K → B → K → Type 0) → (K → B → ℕ → K → Type 0) → K → List B → Result A DeliveryFault → K → Type 0
Delivers accepts refuses s bs r s' = MatchResult r (λ _. Leads accepts s bs s') (λ fault. IsCutOff accepts refuses s bs fault s')

-- items came to others that were held back: the batches that they fill were sent, and what is left is held back
pub record IsFilled {K T A : Type 0} (accepts : K → List T → K → Type 0) (refuses : K → List T → ℕ → K → Type 0) (size : Option ℕ)
    (before items : List T) (s : K) (result : Result A DeliveryFault) (after : List T) (s' : K) : Type 0 where
  pub held : OnOk result (after ≡ held_back size before items)
  pub sent : Delivers accepts refuses s (full_batches size before items) result s'

-- batches of one item each
abbrev pub singles : {T : Type 0} → List T → List (List T)
singles xs = map (λ x. x ∷ []) xs

-- a sink takes all of these batches, or refuses one with a code, after it took those before it
abbrev pub TakesEach : {K B A : Type 0} → (K → B → K → Type 0) → (K → B → ℕ → K → Type 0) → K → List B → Result A ℕ → K → Type 0
TakesEach accepts refuses s bs r s' = MatchResult r (λ _. Leads accepts s bs s') (λ code. IsCutOff accepts refuses s bs (Sink code) s')

-- a sink that keeps the items of its batches
abbrev keeps_items : List ℕ → List ℕ → List ℕ → Type 0
keeps_items s b s' = s' ≡ s ++ b

two_batches : Leads keeps_items (1 ∷ []) ((4 ∷ []) ∷ (2 ∷ 3 ∷ []) ∷ []) (1 ∷ 4 ∷ 2 ∷ 3 ∷ [])
two_batches = (1 ∷ 4 ∷ [], refl, (1 ∷ 4 ∷ 2 ∷ 3 ∷ [], refl, refl))

-- the second of three is refused with 9: the first was taken
refused_second : IsCutOff keeps_items (λ s b code s'. s' ≡ s) [] ((4 ∷ []) ∷ (2 ∷ []) ∷ (3 ∷ []) ∷ []) (Sink 9) (4 ∷ [])
refused_second = (((4 ∷ []) ∷ []), 2 ∷ [], ((3 ∷ []) ∷ []), 4 ∷ [], refl, (4 ∷ [], refl, refl), refl)

-- a sink that refuses has what it had
abbrev stays : List ℕ → List ℕ → ℕ → List ℕ → Type 0
stays s b code s' = s' ≡ s

abbrev three_batches : List (List ℕ)
three_batches = (4 ∷ []) ∷ (2 ∷ []) ∷ (3 ∷ []) ∷ []

-- the item that it has first stays the first
keeps_first : (x : ℕ) (xs : List ℕ) (bs : List (List ℕ)) (s' : List ℕ) → Leads keeps_items (x ∷ xs) bs s' → get_or s' 0 0 ≡ x
keeps_first x xs [] s' is = ap (λ s. get_or s 0 0) is
keeps_first x xs (b ∷ bs) s' (m, is, leads) = keeps_first x (xs ++ b) bs s' (subst (λ s. Leads keeps_items s bs s') is leads)

-- what was delivered before a cut-off is a beginning: not the second batch alone
second_alone : IsCutOff keeps_items stays [] three_batches Memory (2 ∷ []) → ⊥
second_alone ([], rest, parts, leads) = omega (arith, ap length leads)
second_alone (b ∷ bs, rest, parts, (m, is, leads)) =
    let begun : m ≡ 4 ∷ [] = is ∙ sym (ap (λ bs. get_or bs 0 []) parts) in
    let four : 2 ≡ 4 = keeps_first 4 [] bs (2 ∷ []) (subst (λ s. Leads keeps_items s bs (2 ∷ [])) begun leads) in
    omega (arith, four)

-- and a sink that has taken all three has refused none of them
all_and_a_refusal : IsCutOff keeps_items stays [] three_batches (Sink 9) (4 ∷ 2 ∷ 3 ∷ []) → ⊥
all_and_a_refusal ([], b, rest, m, parts, leads, refused) = omega (arith, ap length leads, ap length refused)
all_and_a_refusal (b1 ∷ [], b, rest, m, parts, (m1, is1, leads), refused) =
    let first : 4 ∷ [] ≡ b1 = ap (λ bs. get_or bs 0 []) parts in
    omega (arith, ap length first, ap length is1, ap length leads, ap length refused)
all_and_a_refusal (b1 ∷ b2 ∷ [], b, rest, m, parts, (m1, is1, (m2, is2, leads)), refused) =
    let first : 4 ∷ [] ≡ b1 = ap (λ bs. get_or bs 0 []) parts in
    let second : 2 ∷ [] ≡ b2 = ap (λ bs. get_or bs 1 []) parts in
    omega (arith, ap length first, ap length second, ap length is1, ap length is2 ∙ length-append m1 b2, ap length leads, ap length refused)
all_and_a_refusal (b1 ∷ b2 ∷ b3 ∷ [], b, rest, m, parts, leads, refused) = omega (arith, ap length parts)
all_and_a_refusal (b1 ∷ b2 ∷ b3 ∷ b4 ∷ bs, b, rest, m, parts, leads, refused) = omega (arith, ap length parts)

-- of three items that come one by one the second is refused
refused_single : TakesEach {A = ℕ} keeps_items (λ s b code s'. s' ≡ s) [] (singles (4 ∷ 2 ∷ 3 ∷ [])) (Err 9) (4 ∷ [])
refused_single = (((4 ∷ []) ∷ []), 2 ∷ [], ((3 ∷ []) ∷ []), 4 ∷ [], refl, (4 ∷ [], refl, refl), refl)
