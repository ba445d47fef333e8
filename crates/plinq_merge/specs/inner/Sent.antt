-- Batches that were sent so far, and those that are left.
use Rattle.std.specs.Prelude.{◌≡◌, ℕ, List, [], ◌∷◌, ◌++◌, Result, Ok, Err}
use Rattle.std.proofs.Common.{sym, ◌∙◌, ap, append_assoc}
use Rattle.plinq_merge.specs.declared.delivery_fault.DeliveryFault.{DeliveryFault}
use Rattle.plinq_merge.specs.declared.delivery_fault.DeliveryFault.TheVariants.{Memory, Sink}
use Rattle.plinq_merge.specs.Sending.{Leads, IsCutOff, Delivers}

-- of these batches the first were sent, and the rest are left
pub record IsSentUpTo {K B : Type 0} (accepts : K → B → K → Type 0) (s : K) (all rest : List B) (s' : K) : Type 0 where
  pub sent : List B
  pub parts : all ≡ sent ++ rest
  pub leads : Leads accepts s sent s'

pub leads-append : {K B : Type 0} (accepts : K → B → K → Type 0) (s : K) (bs cs : List B) (m s' : K)
    → Leads accepts s bs m → Leads accepts m cs s' → Leads accepts s (bs ++ cs) s'
leads-append accepts s [] cs m s' first second = rw (sym first) second
leads-append accepts s (b ∷ bs) cs m s' first second = (first.0, first.1, leads-append accepts first.0 bs cs m s' first.2 second)

pub cut-after : {K B : Type 0} (accepts : K → B → K → Type 0) (refuses : K → B → ℕ → K → Type 0) (s : K) (bs cs : List B) (fault : DeliveryFault) (m s' : K)
    → Leads accepts s bs m → IsCutOff accepts refuses m cs fault s' → IsCutOff accepts refuses s (bs ++ cs) fault s'
cut-after accepts refuses s bs cs Memory m s' first second = (
  bs ++ second.0,
  second.1,
  ap (λ zs. bs ++ zs) second.2 ∙ sym (append_assoc bs second.0 second.1),
  leads-append accepts s bs second.0 m s' first second.3,
)
cut-after accepts refuses s bs cs (Sink code) m s' first second = (
  bs ++ second.0,
  second.1,
  second.2,
  second.3,
  ap (λ zs. bs ++ zs) second.4 ∙ sym (append_assoc bs second.0 (second.1 ∷ second.2)),
  leads-append accepts s bs second.0 m second.3 first second.5,
  second.6,
)

-- more batches after those that were cut off
pub cut-before : {K B : Type 0} (accepts : K → B → K → Type 0) (refuses : K → B → ℕ → K → Type 0) (s : K) (bs cs : List B) (fault : DeliveryFault) (s' : K)
    → IsCutOff accepts refuses s bs fault s' → IsCutOff accepts refuses s (bs ++ cs) fault s'
cut-before accepts refuses s bs cs Memory s' cut =
    (cut.0, cut.1 ++ cs, ap (λ zs. zs ++ cs) cut.2 ∙ append_assoc cut.0 cut.1 cs, cut.3)
cut-before accepts refuses s bs cs (Sink code) s' cut =
    (cut.0, cut.1, cut.2 ++ cs, cut.3, ap (λ zs. zs ++ cs) cut.4 ∙ append_assoc cut.0 (cut.1 ∷ cut.2) cs, cut.5, cut.6)

pub up_to-more : {K B : Type 0} (accepts : K → B → K → Type 0) (s : K) (all rest : List B) (m : K) (bs rest' : List B) (s' : K)
    → IsSentUpTo accepts s all rest m → rest ≡ bs ++ rest' → Leads accepts m bs s' → IsSentUpTo accepts s all rest' s'
up_to-more accepts s all rest m bs rest' s' before parts leads =
    record {
      sent = before.sent ++ bs;
      parts = before.parts ∙ ap (λ zs. before.sent ++ zs) parts ∙ sym (append_assoc before.sent bs rest');
      leads = leads-append accepts s before.sent bs m s' before.leads leads;
    }

-- the rest was delivered
pub up_to-leads : {K B : Type 0} (accepts : K → B → K → Type 0) (s : K) (all rest : List B) (m s' : K)
    → IsSentUpTo accepts s all rest m → Leads accepts m rest s' → Leads accepts s all s'
up_to-leads accepts s all rest m s' before leads = rw before.parts (leads-append accepts s before.sent rest m s' before.leads leads)

-- the rest was cut off
pub up_to-cut : {K B : Type 0} (accepts : K → B → K → Type 0) (refuses : K → B → ℕ → K → Type 0)
    (s : K) (all rest : List B) (m : K) (fault : DeliveryFault) (s' : K)
    → IsSentUpTo accepts s all rest m → IsCutOff accepts refuses m rest fault s' → IsCutOff accepts refuses s all fault s'
up_to-cut accepts refuses s all rest m fault s' before cut =
    rw before.parts (cut-after accepts refuses s before.sent rest fault m s' before.leads cut)

-- the fault is answered by a result of any kind
pub delivers-at_err : {K B A : Type 0} (accepts : K → B → K → Type 0) (refuses : K → B → ℕ → K → Type 0)
    (s : K) (bs : List B) (r : Result A DeliveryFault) (fault : DeliveryFault) (s' : K)
    → r ≡ Err fault → IsCutOff accepts refuses s bs fault s' → Delivers accepts refuses s bs r s'
delivers-at_err accepts refuses s bs r fault s' is cut = rw is cut

-- the batches are these
pub delivers-as : {K B A : Type 0} (accepts : K → B → K → Type 0) (refuses : K → B → ℕ → K → Type 0)
    (s : K) (bs cs : List B) (r : Result A DeliveryFault) (s' : K)
    → bs ≡ cs → Delivers accepts refuses s cs r s' → Delivers accepts refuses s bs r s'
delivers-as accepts refuses s bs cs r s' same delivers = rw same delivers

-- after batches that were sent
pub delivers-after : {K B A : Type 0} (accepts : K → B → K → Type 0) (refuses : K → B → ℕ → K → Type 0)
    (s : K) (bs cs : List B) (m : K) (r : Result A DeliveryFault) (s' : K)
    → Leads accepts s bs m → Delivers accepts refuses m cs r s' → Delivers accepts refuses s (bs ++ cs) r s'
delivers-after accepts refuses s bs cs m (Ok x) s' first second = leads-append accepts s bs cs m s' first second
delivers-after accepts refuses s bs cs m (Err fault) s' first second = cut-after accepts refuses s bs cs fault m s' first second
