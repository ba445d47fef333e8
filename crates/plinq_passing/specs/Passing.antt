-- What steps by position make of items that come one by one, and what is passed on of it.
use Rattle.std.specs.Prelude.{◌≡◌, refl, ⊤, ℕ, List, [], ◌∷◌, ◌++◌, Bool, true, false, Option, Some, None, Result, Ok, Err}
use Rattle.plinq_source.specs.declared.ending.Ending.{Ending}
use Rattle.plinq_source.specs.declared.ending.Ending.TheVariants.{End}
use Rattle.plinq_aggregate.specs.Folding.{Folding}
use Rattle.plinq_source.specs.Trace.{ended_trace}
use Rattle.plinq_merge.specs.declared.delivery_fault.DeliveryFault.{DeliveryFault}
use Rattle.plinq_merge.specs.declared.delivery_fault.DeliveryFault.TheVariants.{Memory as NoRoom, Sink as Refusal}
use Rattle.plinq_merge.specs.Sending.{Leads}
use Rattle.plinq_mapped.specs.Making.{Gives}
use Rattle.plinq_run.specs.declared.run_fault.RunFault.TheVariants.{Memory, Sink, Tickets, Thread, Incomplete, Cancelled}
use Rattle.plinq_passing.specs.declared.query_fault.QueryFault.{QueryFault}
use Rattle.plinq_passing.specs.declared.query_fault.QueryFault.TheVariants.{Degree, Growth, Ended, Run}

module _ {K B : Type 0} (takes : K → B → K → Type 0) (refuses : K → B → ℕ → K → Type 0) where
  -- what is made of an item is passed on, if anything is
  abbrev pub PassesOn : K → Option B → K → Type 0
  PassesOn k None k' = k' ≡ k
  PassesOn k (Some y) k' = takes k y k'

  -- it is refused
  abbrev pub RefusesIt : K → Option B → ℕ → K → Type 0
  RefusesIt k None code k' = ⊥
  RefusesIt k (Some y) code k' = refuses k y code k'

  -- no more is asked for, since no more can be made; or what was made is refused
  abbrev pub Stops : Bool → Bool → K → Option B → ℕ → K → Type 0
  Stops ended true k o code k' = (ended ≡ true) × PassesOn k o k'
  Stops ended false k o code k' = RefusesIt k o code k'

module _ {K B : Type 0} (takes : K → B → K → Type 0) (refuses : K → B → ℕ → K → Type 0) where
  -- an item comes to it, and is taken or refused with a code
  abbrev pub Touches : K → B × Option ℕ → K → Type 0
  Touches s (y, None) s' = takes s y s'
  Touches s (y, Some code) s' = refuses s y code s'

  -- nothing happened to it but that some items came to it
  abbrev pub Touched : K → K → Type 0
  Touched s s' = (touches : List (B × Option ℕ)) × Leads Touches s touches s'

-- an item comes to steps by position, and what they make of it is passed on
pub record Carries {L A B K : Type 0} (turns : L → A → Option B → L → Type 0) (passes : K → Option B → K → Type 0) (l : L) (k : K) (x : A) (l' : L)
    (k' : K) : Type 0 where
  pub made : Option B
  pub turned : turns l x made l'
  pub passed : passes k made k'

-- how it went: a refusal once no more could be made is none
abbrev pub told_over : Result ⊤ QueryFault → Bool → Result ⊤ QueryFault
told_over (Ok all) over = Ok tt
told_over (Err Degree) over = Err Degree
told_over (Err (Growth fault)) over = Err (Growth fault)
told_over (Err (Ended e)) over = Err (Ended e)
told_over (Err (Run (Sink code))) true = Ok tt
told_over (Err (Run (Sink code))) false = Err (Run (Sink code))
told_over (Err (Run Memory)) over = Err (Run Memory)
told_over (Err (Run Tickets)) over = Err (Run Tickets)
told_over (Err (Run Thread)) over = Err (Run Thread)
told_over (Err (Run Incomplete)) over = Err (Run Incomplete)
told_over (Err (Run Cancelled)) over = Err (Run Cancelled)

-- why a delivery broke off
abbrev pub told_delivery : DeliveryFault → QueryFault
told_delivery NoRoom = Run Memory
told_delivery (Refusal code) = Run (Sink code)

-- how it went, unless what was left was refused
abbrev pub told_sent : Result ⊤ QueryFault → Result (Option Ending) DeliveryFault → Result ⊤ QueryFault
told_sent how (Ok ending) = how
told_sent how (Err fault) = Err (told_delivery fault)

-- why an item was refused: there was no room for it, or its batch was refused
abbrev pub refusal_of : Bool → ℕ → DeliveryFault
refusal_of true code = NoRoom
refusal_of false code = Refusal code

module _ {K T : Type 0} (accepts : K → List T → K → Type 0) (refuses : K → List T → ℕ → K → Type 0) (size : Option ℕ) where
  -- what is still held back was sent, if the ending says so, and the query ends so; or that was refused
  abbrev pub SendsLast : List T → Ending → K → Result ⊤ QueryFault → Result ⊤ QueryFault → K → Type 0
  SendsLast held ending k how r k' =
      (sent : Result (Option Ending) DeliveryFault) × (held' : List T) × (Gives accepts refuses size held k (ended_trace [] ending) sent held' k')
      × (r ≡ told_sent how sent)

  -- a query that went so ends: what is held back is sent at the end; where an item was refused for want of room, that is the fault
  abbrev pub Finishes : List T → Bool → K → Result ⊤ QueryFault → Result ⊤ QueryFault → K → Type 0
  Finishes held short k (Ok all) r k' = SendsLast held End k (Ok tt) r k'
  Finishes held short k (Err Degree) r k' = (r ≡ Err Degree) × (k' ≡ k)
  Finishes held short k (Err (Growth fault)) r k' = (r ≡ Err (Growth fault)) × (k' ≡ k)
  Finishes held short k (Err (Ended e)) r k' = SendsLast held e k (Err (Ended e)) r k'
  Finishes held short k (Err (Run (Sink code))) r k' = (r ≡ Err (told_delivery (refusal_of short code))) × (k' ≡ k)
  Finishes held short k (Err (Run Memory)) r k' = (r ≡ Err (Run Memory)) × (k' ≡ k)
  Finishes held short k (Err (Run Tickets)) r k' = (r ≡ Err (Run Tickets)) × (k' ≡ k)
  Finishes held short k (Err (Run Thread)) r k' = (r ≡ Err (Run Thread)) × (k' ≡ k)
  Finishes held short k (Err (Run Incomplete)) r k' = (r ≡ Err (Run Incomplete)) × (k' ≡ k)
  Finishes held short k (Err (Run Cancelled)) r k' = (r ≡ Err (Run Cancelled)) × (k' ≡ k)

module _ {T A O : Type 0} (f : Folding T A O) where
  -- an accumulator takes in an item
  abbrev pub FoldsOne : Option A → T → Option A → Type 0
  FoldsOne None x after = ⊥
  FoldsOne (Some acc) x after = after ≡ Some (f.update acc x)

  -- the value at the end; where an item was refused, there was no memory for it
  abbrev pub told_folded : Result ⊤ QueryFault → Option A → Result O QueryFault
  told_folded (Ok all) (Some acc) = Ok (f.tell acc)
  told_folded (Ok all) None = Err (Run Memory)
  told_folded (Err Degree) acc = Err Degree
  told_folded (Err (Growth fault)) acc = Err (Growth fault)
  told_folded (Err (Ended e)) acc = Err (Ended e)
  told_folded (Err (Run (Sink code))) acc = Err (Run Memory)
  told_folded (Err (Run Memory)) acc = Err (Run Memory)
  told_folded (Err (Run Tickets)) acc = Err (Run Tickets)
  told_folded (Err (Run Thread)) acc = Err (Run Thread)
  told_folded (Err (Run Incomplete)) acc = Err (Run Incomplete)
  told_folded (Err (Run Cancelled)) acc = Err (Run Cancelled)

-- ---- worked rows

-- an item that was refused isn't all there is
over_though_refused : told_over (Err (Run (Sink 7))) false ≡ Ok tt → ⊥
over_though_refused is = absurd (let bad : ◌≡◌ {A = Result ⊤ QueryFault} (Err (Run (Sink 7))) (Ok tt) = is in cc)

-- a sink that keeps the items of its batches, and one that refuses none
abbrev keeps_items : List ℕ → List ℕ → List ℕ → Type 0
keeps_items s b s' = s' ≡ s ++ b

abbrev never : {B : Type 0} → List ℕ → B → ℕ → List ℕ → Type 0
never s b code s' = ⊥

-- an item for which there was no room wasn't refused by the sink
no_room_is_memory : Finishes keeps_items never None [] true [] (Err (Run (Sink 0))) (Err (Run Memory)) []
no_room_is_memory = (refl, refl)

no_room_is_a_refusal : Finishes keeps_items never None [] true [] (Err (Run (Sink 0))) (Err (Run (Sink 0))) [] → ⊥
no_room_is_a_refusal is = absurd (let bad : ◌≡◌ {A = Result ⊤ QueryFault} (Err (Run (Sink 0))) (Err (Run Memory)) = is.0 in cc)

-- what is held back goes out at the end
sent_at_the_end : Finishes keeps_items never (Some 16) (5 ∷ []) false [] (Ok tt) (Ok tt) (5 ∷ [])
sent_at_the_end = (Ok (Some End), [], (refl, (5 ∷ [], refl, refl)), refl)

-- something came to it, or it is as it was
touched_by_five : Touched keeps_items never [] (5 ∷ [])
touched_by_five = ((5 ∷ [], None) ∷ [], (5 ∷ [], refl, refl))

touched_by_nothing : Touched {K = List ℕ} {B = ℕ} (λ s x s'. ⊥) never [] (5 ∷ []) → ⊥
touched_by_nothing ([], is) = absurd (let bad : ◌≡◌ {A = List ℕ} (5 ∷ []) [] = is in cc)
touched_by_nothing ((x, None) ∷ more, (m, one, rest)) = one
touched_by_nothing ((x, Some code) ∷ more, (m, one, rest)) = one
