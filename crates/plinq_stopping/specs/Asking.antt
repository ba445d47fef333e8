-- What a token that may stop a run was asked, and what it returned.
use Rattle.std.specs.Prelude.{◌≡◌, refl, ℕ, nat_le, List, [], ◌∷◌, Bool, true, false}
use Rattle.std.proofs.Common.{◌∙◌}
use Rattle.plinq_merge.specs.Sending.{Leads}

module _ {C : Type 0} (asks : C → ℕ → Bool → C → Type 0) where
  -- a token was asked with these numbers, perhaps none, and returned false each time
  abbrev pub Lets : C → C → Type 0
  Lets c c' = (ns : List ℕ) × Leads (λ a n b. asks a n false b) c ns c'

  -- it was asked at least once, and returned false each time
  pub record HasLet (c c' : C) : Type 0 where
    pub before : C
    pub first : Lets c before
    pub number : ℕ
    pub after : C
    pub asked : asks before number false after
    pub rest : Lets after c'

  -- it returned true when it was asked last, and false each time before
  pub record HasStopped (c c' : C) : Type 0 where
    pub before : C
    pub first : Lets c before
    pub number : ℕ
    pub asked : asks before number true c'

  -- the same, whatever the token is then
  abbrev pub WasLetBy : C → Type 0
  WasLetBy c = (c' : C) × HasLet c c'

  abbrev pub WasStoppedBy : C → Type 0
  WasStoppedBy c = (c' : C) × HasStopped c c'

-- ---- worked rows

-- a token that stops at 2
abbrev at_two : Bool → ℕ → Bool → Bool → Type 0
at_two t n answer t' = (answer ≡ nat_le 2 n) × (t' ≡ answer)

asked_twice : HasStopped at_two false true
asked_twice =
    record { before = false; first = (1 ∷ [], (false, (refl, refl), refl)); number = 2; asked = (refl, refl) }

-- one that lets everything pass hasn't changed
stays : (c : Bool) (ns : List ℕ) (c' : Bool) → c ≡ false → Leads (λ a n b. at_two a n false b) c ns c' → c' ≡ false
stays c [] c' is leads = leads ∙ is
stays c (n ∷ ns) c' is leads = stays leads.0 ns c' leads.1.1 leads.2

let_though_it_stopped : HasLet at_two false true → ⊥
let_though_it_stopped has =
    let bad : true ≡ false = stays has.after has.rest.0 true has.asked.1 has.rest.1 in
    absurd (cc)
