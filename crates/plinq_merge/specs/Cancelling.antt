-- Deliveries that a token may stop: it is asked before each batch.
use Rattle.std.specs.Prelude.{◌≡◌, refl, ℕ, ◌+◌, nat_le, min, List, [], ◌∷◌, ◌++◌, Bool, true, false}
use Rattle.std.proofs.Common.{sym}
use Rattle.plinq_merge.specs.Sending.{Leads}

-- one batch more, or the greatest number
abbrev pub next_count : ℕ → ℕ
next_count n = min (n + 1) 18446744073709551615

-- a sink, and how many batches it has taken
pub record Tally (K : Type 0) : Type 0 where
  pub sink : K
  pub delivered : ℕ

-- each batch that it takes counts, and one that it refuses doesn't
abbrev pub Counts : {K T : Type 0} → (K → List T → K → Type 0) → Tally K → List T → Tally K → Type 0
Counts accepts x b x' = (accepts x.sink b x'.sink) × (x'.delivered ≡ next_count x.delivered)

abbrev pub CountsNot : {K T : Type 0} → (K → List T → ℕ → K → Type 0) → Tally K → List T → ℕ → Tally K → Type 0
CountsNot refuses x b code x' = (refuses x.sink b code x'.sink) × (x'.delivered ≡ x.delivered)

-- a token, a sink, and how many batches the sink has taken
pub record Delivery (C K : Type 0) : Type 0 where
  pub token : C
  pub sink : K
  pub delivered : ℕ

module _ {C K T : Type 0} (asks : C → ℕ → Bool → C → Type 0) where
  -- the token lets a batch pass, and the sink takes it
  pub record Passes (accepts : K → List T → K → Type 0) (d : Delivery C K) (b : List T) (d' : Delivery C K) : Type 0 where
    pub asked : asks d.token d.delivered false d'.token
    pub taken : accepts d.sink b d'.sink
    pub counts : d'.delivered ≡ next_count d.delivered

  -- the token lets it pass, and the sink refuses it
  pub record IsRefused (refuses : K → List T → ℕ → K → Type 0) (d : Delivery C K) (b : List T) (code : ℕ) (d' : Delivery C K) : Type 0 where
    pub asked : asks d.token d.delivered false d'.token
    pub refused : refuses d.sink b code d'.sink
    pub counts : d'.delivered ≡ d.delivered

-- the token is asked once, and answers so
pub record IsAsked {C K : Type 0} (asks : C → ℕ → Bool → C → Type 0) (answer : Bool) (d d' : Delivery C K) : Type 0 where
  pub asked : asks d.token d.delivered answer d'.token
  pub sink : d'.sink ≡ d.sink
  pub counts : d'.delivered ≡ d.delivered

module _ {C K T : Type 0} (asks : C → ℕ → Bool → C → Type 0) (accepts : K → List T → K → Type 0)
    (d : Delivery C K) (bs : List (List T)) (d' : Delivery C K) where
  -- a beginning of these batches is delivered, perhaps none, and the next one is kept back
  pub record IsKeptBack : Type 0 where
    pub sent : List (List T)
    pub kept : List T
    pub rest : List (List T)
    pub parts : bs ≡ sent ++ kept ∷ rest
    pub last : Delivery C K
    pub leads : Leads (Passes asks accepts) d sent last
    pub stops : IsAsked asks true last d'

  -- a beginning of them is delivered, perhaps none, and then the token stops: before the next, or after the last
  pub record IsStopped : Type 0 where
    pub sent : List (List T)
    pub rest : List (List T)
    pub parts : bs ≡ sent ++ rest
    pub last : Delivery C K
    pub leads : Leads (Passes asks accepts) d sent last
    pub stops : IsAsked asks true last d'

-- ---- worked rows

-- a token that stops at two batches, and a sink that keeps items
abbrev at_two : Bool → ℕ → Bool → Bool → Type 0
at_two t n answer t' = (answer ≡ nat_le 2 n) × (t' ≡ answer)

abbrev keeps_items : List ℕ → List ℕ → List ℕ → Type 0
keeps_items s b s' = s' ≡ s ++ b

abbrev so_far : Bool → List ℕ → ℕ → Delivery Bool (List ℕ)
so_far token sink delivered = record { token = token; sink = sink; delivered = delivered }

two_of_three : IsKeptBack at_two keeps_items (so_far false [] 0) ((4 ∷ []) ∷ (2 ∷ []) ∷ (5 ∷ []) ∷ []) (so_far true (4 ∷ 2 ∷ []) 2)
two_of_three =
    record {
      sent = (4 ∷ []) ∷ (2 ∷ []) ∷ [];
      kept = 5 ∷ [];
      rest = [];
      parts = refl;
      last = so_far false (4 ∷ 2 ∷ []) 2;
      leads = (
        so_far false (4 ∷ []) 1,
        record { asked = (refl, refl); taken = refl; counts = refl },
        (so_far false (4 ∷ 2 ∷ []) 2, record { asked = (refl, refl); taken = refl; counts = refl }, refl),
      );
      stops = record { asked = (refl, refl); sink = refl; counts = refl };
    }

-- at the last question after both of two batches
after_both : IsStopped at_two keeps_items (so_far false (4 ∷ []) 1) ((2 ∷ []) ∷ []) (so_far true (4 ∷ 2 ∷ []) 2)
after_both =
    record {
      sent = (2 ∷ []) ∷ [];
      rest = [];
      parts = refl;
      last = so_far false (4 ∷ 2 ∷ []) 2;
      leads = (so_far false (4 ∷ 2 ∷ []) 2, record { asked = (refl, refl); taken = refl; counts = refl }, refl);
      stops = record { asked = (refl, refl); sink = refl; counts = refl };
    }

-- what a token says that stops at two batches, by how many were delivered
stops_at_two : (d d' : Delivery Bool (List ℕ)) → IsAsked at_two true d d' → nat_le 2 d.delivered ≡ true
stops_at_two d d' asked = sym asked.asked.0

-- it lets the first batch pass: a run that has delivered none isn't stopped
before_the_first : IsStopped at_two keeps_items (so_far false [] 0) ((4 ∷ []) ∷ (2 ∷ []) ∷ []) (so_far true [] 0) → ⊥
before_the_first stopped =
    let at : stopped.last.delivered ≡ 0 = sym stopped.stops.counts in
    let early = stops_at_two stopped.last (so_far true [] 0) stopped.stops in
    absurd (cc)

-- nor is a batch kept back of one
kept_before_the_first : IsKeptBack at_two keeps_items (so_far false [] 0) ((4 ∷ []) ∷ (2 ∷ []) ∷ []) (so_far true [] 0) → ⊥
kept_before_the_first kept =
    let at : kept.last.delivered ≡ 0 = sym kept.stops.counts in
    let early = stops_at_two kept.last (so_far true [] 0) kept.stops in
    absurd (cc)

at_the_greatest_number : next_count 18446744073709551615 ≡ 18446744073709551615
at_the_greatest_number = refl
