-- Offers with a token: a token and a sink as one sink, what is delivered in terms of either, and what the token has answered.
use Rattle.plinq_merge.proofs.MergerWords.{◌≡◌, ℕ, List, [], ◌∷◌, Bool, Result, Ok, Err, true, false, ◌||◌, refl, ap, sym, ◌∙◌, or-false, Meaning, ChunkResult}
use Rattle.plinq_merge.proofs.MergerWords.{MergeFault, Memory, Sink, Twice, More, Yes, No, JoinerState, Open, DeliveryFault, NoMemory, Refusal, Leads, Merge}
use Rattle.plinq_merge.proofs.MergerWords.{Work, Brings, OffersAt, delivery_fault_of, SendsSome}
use Rattle.std.proofs.Math.Bool.{or-true}
use Rattle.plinq_merge.specs.declared.with_cancellation.WithCancellation.{WithCancellation}
use Rattle.plinq_merge.specs.Cancelling.{Delivery, Passes, IsRefused, IsKeptBack}
use Rattle.plinq_merge.specs.inner.Stopped.{answer_unless_stopped}
use Rattle.plinq_merge.specs.Lent.{AreSame, delivery_of, Takes, Refuses}
use Rattle.plinq_merge.specs.{declared.merge_fault.MergeFault.TheVariants.Cancelled, Mergers.AsksEach, Mergers.is_cancelled, Offering.OffersWithAt}
use Rattle.plinq_merge.specs.{Offering.IsCancelled, Sending.IsCutOff}

pub leads-map : {K M B : Type 0} (f : K → M) (accepts : K → B → K → Type 0) (accepts' : M → B → M → Type 0)
    → ((s : K) (b : B) (s' : K) → accepts s b s' → accepts' (f s) b (f s'))
    → (s : K) (bs : List B) (s' : K) → Leads accepts s bs s' → Leads accepts' (f s) bs (f s')
leads-map f accepts accepts' takes s [] s' leads = ap f leads
leads-map f accepts accepts' takes s (b ∷ bs) s' leads = (f leads.0, takes s b leads.0 leads.1, leads-map f accepts accepts' takes leads.0 bs s' leads.2)

pub cut-map : {K M B : Type 0} (f : K → M) (accepts : K → B → K → Type 0) (refuses : K → B → ℕ → K → Type 0) (accepts' : M → B → M → Type 0)
    (refuses' : M → B → ℕ → M → Type 0)
    → ((s : K) (b : B) (s' : K) → accepts s b s' → accepts' (f s) b (f s'))
    → ((s : K) (b : B) (code : ℕ) (s' : K) → refuses s b code s' → refuses' (f s) b code (f s'))
    → (s : K) (bs : List B) (fault : DeliveryFault) (s' : K) → IsCutOff accepts refuses s bs fault s' → IsCutOff accepts' refuses' (f s) bs fault (f s')
cut-map f accepts refuses accepts' refuses' takes refused s bs NoMemory s' cut = (cut.0, cut.1, cut.2, leads-map f accepts accepts' takes s cut.0 s' cut.3)
cut-map f accepts refuses accepts' refuses' takes refused s bs (Refusal code) s' cut =
    (cut.0, cut.1, cut.2, f cut.3, cut.4, leads-map f accepts accepts' takes s cut.0 cut.3 cut.5, refused cut.3 cut.1 code s' cut.6)

brings-map : {T : Type 0} {merge : Merge T} {offers : List (ChunkResult T)} {r : ChunkResult T} {P Q : List (List T) → Type 0}
    → ((bs : List (List T)) → P bs → Q bs) → Brings merge offers r P → Brings merge offers r Q
brings-map on brings = record { are_new = brings.are_new; gained = brings.gained; grows = brings.grows; sent = on brings.gained brings.sent }

-- an offer, where what is delivered goes from s to s', and in the other words from t to t'
module _ {L K M T : Type 0} (meaning : L → Meaning T) (decided : Bool) (accepts : K → List T → K → Type 0) (refuses : K → List T → ℕ → K → Type 0)
    (accepts' : M → List T → M → Type 0) (refuses' : M → List T → ℕ → M → Type 0) (s s' : K) (t t' : M)
    (leads : (bs : List (List T)) → Leads accepts s bs s' → Leads accepts' t bs t')
    (cuts : (bs : List (List T)) (fault : DeliveryFault) → IsCutOff accepts refuses s bs fault s' → IsCutOff accepts' refuses' t bs fault t')
    (same : s' ≡ s → t' ≡ t) (w : Work L T) (r : ChunkResult T) (w' : Work L T) (standing' : JoinerState) where
  offers-map : (standing : JoinerState) (result : Result More MergeFault) → OffersAt meaning decided accepts refuses w standing r s result w' standing' s'
      → OffersAt meaning decided accepts' refuses' w standing r t result w' standing' t'
  offers-map Open (Ok Yes) o = (o.0, λ offers rests. let on = o.1 offers rests in (brings-map leads on.0, on.1))
  offers-map Open (Ok No) o = (o.0, o.1, λ offers rests. let on = o.2 offers rests in (brings-map leads on.0, on.1))
  offers-map Open (Err Memory) o = (o.0, λ offers rests. brings-map (λ bs. cuts bs NoMemory) (o.1 offers rests))
  offers-map Open (Err (Sink code)) o = (o.0, λ offers rests. brings-map (λ bs. cuts bs (Refusal code)) (o.1 offers rests))
  offers-map Open (Err Twice) o = (o.0, o.1, same o.2, o.3)
  offers-map Open (Err fault) o = absurd o
  offers-map standing result o = (o.0, o.1, o.2, same o.3)

module _ {C : Type 0} (asks : C → ℕ → Bool → C → Type 0) (has_told : C → Bool)
    (keeps : (t : C) (n : ℕ) (answer : Bool) (t' : C) → asks t n answer t' → has_told t' ≡ (has_told t || answer)) where
  pub lets-told : (t : C) (n : ℕ) (t' : C) → asks t n false t' → has_told t' ≡ has_told t
  lets-told t n t' asked = keeps t n false t' asked ∙ or-false (has_told t)

  pub stops-told : (t : C) (n : ℕ) (t' : C) → asks t n true t' → has_told t' ≡ true
  stops-told t n t' asked = keeps t n true t' asked ∙ or-true (has_told t)

  module _ {K T : Type 0} (accepts : K → List T → K → Type 0) (refuses : K → List T → ℕ → K → Type 0) where
    -- nothing, where each batch passed
    pub leads-told : (d : Delivery C K) (bs : List (List T)) (d' : Delivery C K) → Leads (Passes asks accepts) d bs d' → has_told d'.token ≡ has_told d.token
    leads-told d [] d' leads = ap (λ x. has_told x.token) leads
    leads-told d (b ∷ bs) d' leads = leads-told leads.0 bs d' leads.2 ∙ lets-told d.token d.delivered leads.0.token leads.1.asked

    pub cut-told : (d : Delivery C K) (bs : List (List T)) (fault : DeliveryFault) (d' : Delivery C K)
        → IsCutOff (Passes asks accepts) (IsRefused asks refuses) d bs fault d' → has_told d'.token ≡ has_told d.token
    cut-told d bs NoMemory d' cut = leads-told d cut.0 d' cut.3
    cut-told d bs (Refusal code) d' cut = lets-told cut.3.token cut.3.delivered d'.token cut.6.asked ∙ leads-told d cut.0 cut.3 cut.5

    pub asks-told : (d : Delivery C K) (r : Result More MergeFault) (d' : Delivery C K) → AsksEach asks accepts refuses d r d'
        → has_told d'.token ≡ (has_told d.token || is_cancelled r)
    asks-told d (Ok more) d' asked = leads-told d asked.0 d' asked.1 ∙ sym (or-false (has_told d.token))
    asks-told d (Err Cancelled) d' asked = stops-told _ _ d'.token asked.1.stops.asked ∙ sym (or-true (has_told d.token))
    asks-told d (Err fault) d' asked = cut-told d asked.0 (delivery_fault_of fault) d' asked.1 ∙ sym (or-false (has_told d.token))

same-on : {C K : Type 0} (w m w' : WithCancellation C K) → AreSame w m → AreSame m w' → AreSame w w'
same-on w m w' first second = record { token = second.token ∙ first.token; sink = second.sink ∙ first.sink }

module _ {C K T : Type 0} (asks : C → ℕ → Bool → C → Type 0) (accepts : K → List T → K → Type 0) (refuses : K → List T → ℕ → K → Type 0) where
  -- batches were delivered, and the token hasn't stopped that
  pub record GoesOn (w : WithCancellation C K) (bs : List (List T)) (w' : WithCancellation C K) : Type 0 where
    pub same : AreSame w w'
    pub leads : Leads (Passes asks accepts) (delivery_of w) bs (delivery_of w')
    pub still : w'.is_stopped ≡ w.is_stopped

  pub leads-on : (w : WithCancellation C K) (bs : List (List T)) (w' : WithCancellation C K) → Leads (Takes asks accepts) w bs w' → GoesOn w bs w'
  leads-on w [] w' is =
      let same : AreSame w w' = record { token = ap (λ x. x.token.ghost_name) is; sink = ap (λ x. x.sink.ghost_name) is } in
      record { same = same; leads = ap delivery_of is; still = ap (λ x. x.is_stopped) is }
  leads-on w (b ∷ bs) w' (m, step, leads) =
      let on = leads-on m bs w' leads in
      record { same = same-on w m w' step.same on.same; leads = (delivery_of m, step.passes, on.leads); still = on.still ∙ step.goes_on }

  pub cut-same : (w : WithCancellation C K) (bs : List (List T)) (fault : DeliveryFault) (w' : WithCancellation C K)
      → IsCutOff (Takes asks accepts) (Refuses asks refuses) w bs fault w' → AreSame w w'
  cut-same w bs NoMemory w' cut = (leads-on w cut.0 w' cut.3).same
  cut-same w bs (Refusal code) w' cut = same-on w cut.3 w' (leads-on w cut.0 cut.3 cut.5).same cut.6.same

  -- the sink was refused memory, or refused a batch, and no batch was kept back
  pub cut-on : (w : WithCancellation C K) (bs : List (List T)) (fault : DeliveryFault) (w' : WithCancellation C K) → w.is_stopped ≡ false
      → w'.is_stopped ≡ false → IsCutOff (Takes asks accepts) (Refuses asks refuses) w bs fault w'
      → IsCutOff (Passes asks accepts) (IsRefused asks refuses) (delivery_of w) bs fault (delivery_of w')
  cut-on w bs NoMemory w' before after cut = (cut.0, cut.1, cut.2, (leads-on w cut.0 w' cut.3).leads)
  cut-on w bs (Refusal code) w' before after cut =
      let on = leads-on w cut.0 cut.3 cut.5 in
      (cut.0, cut.1, cut.2, delivery_of cut.3, cut.4, on.leads, rw after at (cut.6.was (on.still ∙ before)))

  -- a batch was kept back
  pub cut-kept : (w : WithCancellation C K) (bs : List (List T)) (fault : DeliveryFault) (w' : WithCancellation C K) → w.is_stopped ≡ false
      → w'.is_stopped ≡ true → IsCutOff (Takes asks accepts) (Refuses asks refuses) w bs fault w' → IsKeptBack asks accepts (delivery_of w) bs (delivery_of w')
  cut-kept w bs NoMemory w' before after cut = let on = leads-on w cut.0 w' cut.3 in absurd (let bad : true ≡ false = sym after ∙ on.still ∙ before in cc)
  cut-kept w bs (Refusal code) w' before after cut =
      let on = leads-on w cut.0 cut.3 cut.5 in
      let stops = rw after at (cut.6.was (on.still ∙ before)) in
      record { sent = cut.0; kept = cut.1; rest = cut.2; parts = cut.4; last = delivery_of cut.3; leads = on.leads; stops = stops }

  abbrev Sends : WithCancellation C K → Result More MergeFault → WithCancellation C K → Type 0
  Sends w r w' = SendsSome (Takes asks accepts) (Refuses asks refuses) w r w'

  pub sends-same : (w : WithCancellation C K) (r : Result More MergeFault) (w' : WithCancellation C K) → Sends w r w' → AreSame w w'
  sends-same w (Ok more) w' sends = (leads-on w sends.0 w' sends.1).same
  sends-same w (Err Cancelled) w' sends = absurd sends
  sends-same w (Err fault) w' sends = cut-same w sends.0 (delivery_fault_of fault) w' sends.1

  module _ (w w' : WithCancellation C K) (before : w.is_stopped ≡ false) where
    -- where each batch passed, the token hasn't stopped
    not-stopped : {P : Type 0} → w'.is_stopped ≡ w.is_stopped → w'.is_stopped ≡ true → P
    not-stopped still after = absurd (let bad : true ≡ false = sym after ∙ still ∙ before in cc)

    -- the token was asked before each batch
    pub asks-within : (stops : Bool) (r : Result More MergeFault) → w'.is_stopped ≡ stops → Sends w r w'
        → AsksEach asks accepts refuses (delivery_of w) (answer_unless_stopped stops r) (delivery_of w')
    asks-within stops (Err Cancelled) after sends = absurd sends
    asks-within true (Ok more) after sends = not-stopped (leads-on w sends.0 w' sends.1).still after
    asks-within true (Err fault) after sends = (sends.0, cut-kept w sends.0 (delivery_fault_of fault) w' before after sends.1)
    asks-within false (Ok more) after sends = (sends.0, (leads-on w sends.0 w' sends.1).leads)
    asks-within false (Err fault) after sends = (sends.0, cut-on w sends.0 (delivery_fault_of fault) w' before after sends.1)

    module _ {L : Type 0} (meaning : L → Meaning T) (decided : Bool) (x : Work L T) (r : ChunkResult T) (x' : Work L T) (standing' : JoinerState) where
      abbrev OffersTo : JoinerState → Result More MergeFault → Type 0
      OffersTo standing answer = OffersAt meaning decided (Takes asks accepts) (Refuses asks refuses) x standing r w answer x' standing' w'

      offers-stopped : (standing : JoinerState) (answer : Result More MergeFault) → w'.is_stopped ≡ true → Sends w answer w' → OffersTo standing answer
          → IsCancelled meaning decided asks accepts x standing r (delivery_of w) standing' (delivery_of w')
      offers-stopped Open (Ok more) after sends o = not-stopped (leads-on w sends.0 w' sends.1).still after
      offers-stopped Open (Err Memory) after sends o =
          (refl, o.0, λ offers rests. brings-map (λ bs. cut-kept w bs NoMemory w' before after) (o.1 offers rests))
      offers-stopped Open (Err (Sink code)) after sends o =
          (refl, o.0, λ offers rests. brings-map (λ bs. cut-kept w bs (Refusal code) w' before after) (o.1 offers rests))
      offers-stopped Open (Err Twice) after sends o = not-stopped (ap (λ y. y.is_stopped) o.2) after
      offers-stopped Open (Err fault) after sends o = absurd o
      offers-stopped standing answer after sends o = not-stopped (ap (λ y. y.is_stopped) o.3) after

      -- an offer to a token and a sink as one sink is one to both
      pub offers-within : (standing : JoinerState) (stops : Bool) (answer : Result More MergeFault) → w'.is_stopped ≡ stops → Sends w answer w'
          → OffersTo standing answer
          → OffersWithAt meaning decided asks accepts refuses x standing r (delivery_of w) (answer_unless_stopped stops answer) x' standing' (delivery_of w')
      offers-within standing stops (Err Cancelled) after sends o = absurd sends
      offers-within standing true answer after sends o = offers-stopped standing answer after sends o
      offers-within standing false answer after sends o =
          offers-map meaning decided _ _ _ _ w w' (delivery_of w) (delivery_of w') (λ bs leads. (leads-on w bs w' leads).leads)
          (λ bs fault cut. cut-on w bs fault w' before after cut) (ap delivery_of) x r x' standing' standing answer o

-- where the token never stops, along a function of deliveries
module _ {C K T L M : Type 0} (asks : C → ℕ → Bool → C → Type 0) (never : (c c' : C) (n : ℕ) → asks c n true c' → ⊥) (accepts : K → List T → K → Type 0)
    (refuses : K → List T → ℕ → K → Type 0) (meaning : L → Meaning T) (decided : Bool) (accepts' : M → List T → M → Type 0)
    (refuses' : M → List T → ℕ → M → Type 0) (f : Delivery C K → M)
    (takes : (d : Delivery C K) (b : List T) (d' : Delivery C K) → Passes asks accepts d b d' → accepts' (f d) b (f d'))
    (refused : (d : Delivery C K) (b : List T) (code : ℕ) (d' : Delivery C K) → IsRefused asks refuses d b code d' → refuses' (f d) b code (f d'))
    (w : Work L T) (r : ChunkResult T) (d : Delivery C K) (w' : Work L T) (standing' : JoinerState) (d' : Delivery C K) where
  pub offers-seen : (standing : JoinerState) (answer : Result More MergeFault) → AsksEach asks accepts refuses d answer d'
      → OffersWithAt meaning decided asks accepts refuses w standing r d answer w' standing' d'
      → OffersAt meaning decided accepts' refuses' w standing r (f d) answer w' standing' (f d')
  offers-seen standing (Err Cancelled) asked o = absurd (never _ _ _ asked.1.stops.asked)
  offers-seen standing answer asked o =
      offers-map meaning decided _ _ accepts' refuses' d d' (f d) (f d') (λ bs. leads-map f _ accepts' takes d bs d')
      (λ bs fault. cut-map f _ _ accepts' refuses' takes refused d bs fault d') (ap f) w r w' standing' standing answer o
