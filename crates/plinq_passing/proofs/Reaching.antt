-- What is made of what was reported comes after its token was asked as well.
use Rattle.std.specs.Prelude.{◌≡◌, refl, ⊤, ℕ, List, [], Bool, true, false, Option, Some, Result, Ok, Err, IfErr}
use Rattle.std.proofs.Common.{sym, subst}
use Rattle.plinq_source.specs.declared.ending.Ending.{Ending}
use Rattle.plinq_source.specs.declared.ending.Ending.TheVariants.{End}
use Rattle.plinq_merge.specs.declared.delivery_fault.DeliveryFault.{DeliveryFault}
use Rattle.plinq_merge.specs.declared.delivery_fault.DeliveryFault.TheVariants.{Memory as NoRoom, Sink as Refusal}
use Rattle.plinq_merge.specs.Sending.{Leads}
use Rattle.plinq_run.specs.declared.run_fault.RunFault.TheVariants.{Memory, Sink, Tickets, Thread, Incomplete, Cancelled}
use Rattle.plinq_passing.specs.declared.query_fault.QueryFault.{QueryFault}
use Rattle.plinq_passing.specs.declared.query_fault.QueryFault.TheVariants.{Degree, Growth, Ended, Run}
use Rattle.plinq_passing.specs.Listed.{WasShort}
use Rattle.plinq_passing.specs.Passing.{Finishes, refusal_of, told_delivery, told_over, told_sent}
use Rattle.plinq_passing.specs.Ran.{Ran}
use Rattle.plinq_passing.specs.Told.{AskedFor}

module _ (Lets : Type 0) where
  pub asked-over : (over : Bool) (r : Result ⊤ QueryFault) → AskedFor Lets r → AskedFor Lets (told_over r over)
  asked-over true (Err (Run (Sink code))) asked = asked
  asked-over false (Err (Run (Sink code))) asked = asked
  asked-over over (Ok all) asked = asked
  asked-over over (Err (Ended e)) asked = asked
  asked-over over (Err fault) asked = tt

  -- what is held back goes out at last
  asked-sent : (how : Result ⊤ QueryFault) → AskedFor Lets how → Lets → (sent : Result (Option Ending) DeliveryFault) → AskedFor Lets (told_sent how sent)
  asked-sent how asked let_pass (Ok ending) = asked
  asked-sent how asked let_pass (Err NoRoom) = tt
  asked-sent how asked let_pass (Err (Refusal code)) = let_pass

  asked-refused : (short : Bool) (code : ℕ) → Lets → AskedFor {X = ⊤} Lets (Err (told_delivery (refusal_of short code)))
  asked-refused true code let_pass = tt
  asked-refused false code let_pass = let_pass

  pub asked-finished : {K T : Type 0} (accepts : K → List T → K → Type 0) (refuses : K → List T → ℕ → K → Type 0) (size : Option ℕ) (held : List T)
      (short : Bool) (k : K) (r r' : Result ⊤ QueryFault) (k' : K) → Finishes accepts refuses size held short k r r' k' → AskedFor Lets r → AskedFor Lets r'
  asked-finished accepts refuses size held short k (Ok all) r' k' (sent, left, gives, is) asked =
      subst (AskedFor Lets) (sym is) (asked-sent (Ok tt) asked asked sent)
  asked-finished accepts refuses size held short k (Err (Ended e)) r' k' (sent, left, gives, is) asked =
      subst (AskedFor Lets) (sym is) (asked-sent (Err (Ended e)) asked asked sent)
  asked-finished accepts refuses size held short k (Err (Run (Sink code))) r' k' (is, same) asked =
      subst (AskedFor Lets) (sym is) (asked-refused short code asked)
  asked-finished accepts refuses size held short k (Err Degree) r' k' (is, same) asked = subst (AskedFor Lets) (sym is) tt
  asked-finished accepts refuses size held short k (Err (Growth fault)) r' k' (is, same) asked = subst (AskedFor Lets) (sym is) tt
  asked-finished accepts refuses size held short k (Err (Run Memory)) r' k' (is, same) asked = subst (AskedFor Lets) (sym is) tt
  asked-finished accepts refuses size held short k (Err (Run Tickets)) r' k' (is, same) asked = subst (AskedFor Lets) (sym is) tt
  asked-finished accepts refuses size held short k (Err (Run Thread)) r' k' (is, same) asked = subst (AskedFor Lets) (sym is) tt
  asked-finished accepts refuses size held short k (Err (Run Incomplete)) r' k' (is, same) asked = subst (AskedFor Lets) (sym is) tt
  asked-finished accepts refuses size held short k (Err (Run Cancelled)) r' k' (is, same) asked = subst (AskedFor Lets) (sym is) tt

-- nothing is made of a query that is over, whatever is reported of it
pub ran-none : {K B : Type 0} (takes : K → B → K → Type 0) (refuses : K → B → ℕ → K → Type 0) (Stops : Type 0) (workers : ℕ) (growth : Option (ℕ × ℕ × ℕ))
    (ys : List B) (ending : Option Ending) (s : K) → ys ≡ [] → ending ≡ Some End → (r : Result ⊤ QueryFault) → IfErr r (WasShort Stops workers growth)
    → Ran takes refuses Stops workers growth ys ending s r s
ran-none takes refuses Stops workers growth ys ending s none well (Ok all) short = (subst (λ zs. Leads takes s zs s) (sym none) refl, well)
ran-none takes refuses Stops workers growth ys ending s none well (Err Degree) short = (refl, short)
ran-none takes refuses Stops workers growth ys ending s none well (Err (Growth fault)) short = (refl, short)
ran-none takes refuses Stops workers growth ys ending s none well (Err (Ended e)) short = absurd short
ran-none takes refuses Stops workers growth ys ending s none well (Err (Run (Sink code))) short = absurd short
ran-none takes refuses Stops workers growth ys ending s none well (Err (Run Cancelled)) short = (short, ([], ys, refl, refl))
ran-none takes refuses Stops workers growth ys ending s none well (Err (Run Memory)) short = ([], ys, refl, refl)
ran-none takes refuses Stops workers growth ys ending s none well (Err (Run Tickets)) short = ([], ys, refl, refl)
ran-none takes refuses Stops workers growth ys ending s none well (Err (Run Thread)) short = ([], ys, refl, refl)
ran-none takes refuses Stops workers growth ys ending s none well (Err (Run Incomplete)) short = ([], ys, refl, refl)
