-- What a run says of what was lent to it.
use Rattle.std.specs.Prelude.{◌≡◌, ⊤, ℕ, List, [], ◌∷◌, Option, Some, None, Result, Ok, Err}
use Rattle.std.proofs.Common.{ap}
use Rattle.plinq_source.specs.declared.ending.Ending.{Ending}
use Rattle.plinq_merge.specs.Sending.{Leads}
use Rattle.plinq_run.specs.Runs.{Cause, SinkRefused, Stopped, Other, cause_of}
use Rattle.plinq_passing.specs.declared.query_fault.QueryFault.{QueryFault}
use Rattle.plinq_passing.specs.declared.query_fault.QueryFault.TheVariants.{Degree, Growth, Ended, Run}
use Rattle.plinq_passing.specs.Ran.{Ran, BreaksOff}
use Rattle.plinq_passing.specs.Passing.{Touches, Touched}

module _ {K F T N : Type 0} (takes : F → T → F → Type 0) (refuses : F → T → ℕ → F → Type 0) (p : K → F) (name : K → N) where
  -- what is lent takes an item, and stays what is lent
  abbrev TakesLent : K → T → K → Type 0
  TakesLent s y t = takes (p s) y (p t) × (name t ≡ name s)

  abbrev RefusesLent : K → T → ℕ → K → Type 0
  RefusesLent s y code t = refuses (p s) y code (p t) × (name t ≡ name s)

  leads-lent : (ys : List T) (s t : K) → Leads TakesLent s ys t → Leads takes (p s) ys (p t)
  leads-lent [] s t is = ap p is
  leads-lent (y ∷ ys) s t (m, one, rest) = (p m, one.0, leads-lent ys m t rest)

  breaks-lent : (Stops : Type 0) (cause : Cause) (ys : List T) (s t : K) → BreaksOff TakesLent RefusesLent Stops cause ys s t
      → BreaksOff takes refuses Stops cause ys (p s) (p t)
  breaks-lent Stops (SinkRefused code) ys s t (sent, next, rest, m, parts, leads, refused) =
      (sent, next, rest, p m, parts, leads-lent sent s m leads, refused.0)
  breaks-lent Stops Stopped ys s t (stops, (sent, rest, parts, leads)) = (stops, (sent, rest, parts, leads-lent sent s t leads))
  breaks-lent Stops Other ys s t (sent, rest, parts, leads) = (sent, rest, parts, leads-lent sent s t leads)

  module _ (Stops : Type 0) (workers : ℕ) (growth : Option (ℕ × ℕ × ℕ)) where
    pub lent-ran : (ys : List T) (ending : Option Ending) (s : K) (r : Result ⊤ QueryFault) (t : K)
        → Ran TakesLent RefusesLent Stops workers growth ys ending s r t
        → Ran takes refuses Stops workers growth ys ending (p s) r (p t)
    lent-ran ys ending s (Ok all) t ran = (leads-lent ys s t ran.0, ran.1)
    lent-ran ys ending s (Err Degree) t ran = (ap p ran.0, ran.1)
    lent-ran ys ending s (Err (Growth fault)) t ran = (ap p ran.0, ran.1)
    lent-ran ys ending s (Err (Ended e)) t ran = (leads-lent ys s t ran.0, ran.1, ran.2)
    lent-ran ys ending s (Err (Run fault)) t ran = breaks-lent Stops (cause_of fault) ys s t ran

  -- nothing happened to it but that items came to it
  led-lent : (touches : List (T × Option ℕ)) (s t : K) → Leads (Touches TakesLent RefusesLent) s touches t → Leads (Touches takes refuses) (p s) touches (p t)
  led-lent [] s t is = ap p is
  led-lent ((y, None) ∷ more) s t (m, one, rest) = (p m, one.0, led-lent more m t rest)
  led-lent ((y, Some code) ∷ more) s t (m, one, rest) = (p m, one.0, led-lent more m t rest)

  pub lent-touched : (s t : K) → Touched TakesLent RefusesLent s t → Touched takes refuses (p s) (p t)
  lent-touched s t (touches, leads) = (touches, led-lent touches s t leads)
