-- Delivering: what becomes of traces that go through operators, and in batches to a sink.
use Rattle.std.specs.Prelude.{◌≡◌, ℕ, List, length, Bool, true, not, ◌&&◌, nat_lt, Option, Some, None, Result, Ok, Err}
use Rattle.plinq_source.specs.declared.ending.Ending.{Ending}
use Rattle.plinq_source.specs.Trace.{Trace}
use Rattle.plinq_lambda.specs.Meaning.{Meaning}
use Rattle.plinq_ops.specs.Stage.{Stage, seq, some_takes_none}
use Rattle.plinq_ops.specs.Operator.{stages_of}
use Rattle.plinq_ops.specs.Batches.{full_batches, held_back, batches_from}
use Rattle.plinq_ops.specs.Pipeline.{stages}
use Rattle.plinq_merge.specs.declared.deliver.Deliver.{Deliver}
use Rattle.plinq_merge.specs.declared.delivery_fault.DeliveryFault.{DeliveryFault}
use Rattle.plinq_merge.specs.Buffer.{held_of, size_of}
use Rattle.plinq_merge.specs.Merging.{GoesOn}
use Rattle.plinq_merge.specs.Sending.{Leads, IsCutOff}

-- the operators and what is left of them, the items that are held back, and after how many a batch is full
pub record Line (T : Type 0) : Type 0 where
  pub after : List (Stage T)
  pub now : List (Stage T)
  pub held : List T
  pub size : Option ℕ

abbrev pub line_of : {L T : Type 0} → (L → Meaning T) → Deliver L T → Line T
line_of meaning d = record { after = stages_of meaning d.pipeline.ops; now = stages meaning d.pipeline; held = held_of d.buffer; size = size_of d.buffer }

-- whether fewer items are held back than a batch has
abbrev pub is_below : {T : Type 0} → Option ℕ → List T → Bool
is_below None held = true
is_below (Some size) held = nat_lt (length held) size

-- whether more items may come: no operator has ended the answer, and there is room for an item
abbrev pub can_deliver : {L T : Type 0} → (L → Meaning T) → Deliver L T → Bool
can_deliver meaning d = not (some_takes_none (stages meaning d.pipeline)) && is_below (size_of d.buffer) (held_of d.buffer)

-- the operators and the size of a batch are the same as before
pub record KeepsPlan {T : Type 0} (l l' : Line T) : Type 0 where
  pub after : l'.after ≡ l.after
  pub size : l'.size ≡ l.size

module _ {K T : Type 0} (accepts : K → List T → K → Type 0) (refuses : K → List T → ℕ → K → Type 0) where
  -- the trace gave `out`, of which the full batches were delivered, and more may follow
  pub record DeliversOn (l : Line T) (s : K) (t : Trace T) (l' : Line T) (s' : K) : Type 0 where
    pub out : List T
    pub on : GoesOn l.now t out None l'.now
    pub held : l'.held ≡ held_back l.size l.held out
    pub leads : Leads accepts s (full_batches l.size l.held out) s'

  -- or it ended the answer and all batches were delivered, or they were cut off
  abbrev pub Gives : Line T → K → Trace T → Result (Option Ending) DeliveryFault → Line T → K → Type 0
  Gives l s t (Ok None) l' s' = DeliversOn l s t l' s'
  Gives l s t (Ok (Some e)) l' s' = ((seq l.now t).ending ≡ Some e) × Leads accepts s (batches_from l.size l.held (seq l.now t)) s'
  Gives l s t (Err fault) l' s' = IsCutOff accepts refuses s (batches_from l.size l.held (seq l.now t)) fault s'

  pub record Made (l : Line T) (s : K) (t : Trace T) (r : Result (Option Ending) DeliveryFault) (l' : Line T) (s' : K) : Type 0 where
    pub plan : KeepsPlan l l'
    pub gives : Gives l s t r l' s'

  -- the same of a delivery
  abbrev pub MadeBy : {L : Type 0} → (L → Meaning T) → Deliver L T → K → Trace T → Result (Option Ending) DeliveryFault → Deliver L T → K → Type 0
  MadeBy meaning d s t r d' s' = Made (line_of meaning d) s t r (line_of meaning d') s'
