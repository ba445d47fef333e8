-- A token and a sink that are lent together, as one sink.
use Rattle.std.specs.Prelude.{◌≡◌, ℕ, List, Bool, true, false}
use Rattle.plinq_merge.specs.declared.with_cancellation.WithCancellation.{WithCancellation}
use Rattle.plinq_merge.specs.Cancelling.{Delivery, Passes, IsRefused, IsAsked}

-- the same token and the same sink are lent
pub record AreSame {C K : Type 0} (w w' : WithCancellation C K) : Type 0 where
  pub token : w'.token.ghost_name ≡ w.token.ghost_name
  pub sink : w'.sink.ghost_name ≡ w.sink.ghost_name

-- the token, the sink, and how many batches it has taken
abbrev pub delivery_of : {C K : Type 0} → WithCancellation C K → Delivery C K
delivery_of w = record { token = w.token.now; sink = w.sink.now; delivered = w.delivered }

module _ {C K T : Type 0} (asks : C → ℕ → Bool → C → Type 0) where
  pub record Takes (accepts : K → List T → K → Type 0) (w : WithCancellation C K) (b : List T) (w' : WithCancellation C K) : Type 0 where
    pub same : AreSame w w'
    pub passes : Passes asks accepts (delivery_of w) b (delivery_of w')
    pub goes_on : w'.is_stopped ≡ w.is_stopped

  -- the token kept it back, or the sink refused it
  abbrev pub KeptOrRefused : (K → List T → ℕ → K → Type 0) → Bool → Delivery C K → List T → ℕ → Delivery C K → Type 0
  KeptOrRefused refuses true d b code d' = IsAsked asks true d d'
  KeptOrRefused refuses false d b code d' = IsRefused asks refuses d b code d'

  pub record Refuses (refuses : K → List T → ℕ → K → Type 0) (w : WithCancellation C K) (b : List T) (code : ℕ) (w' : WithCancellation C K) : Type 0 where
    pub same : AreSame w w'
    pub was : w.is_stopped ≡ false → KeptOrRefused refuses w'.is_stopped (delivery_of w) b code (delivery_of w')
