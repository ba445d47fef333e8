-- Whatever a run returns, nothing happened to what it was given but that items came to it.
use Rattle.std.specs.Prelude.{◌≡◌, ⊤, ℕ, List, [], ◌∷◌, ◌++◌, Bool, true, false, Option, Some, None, Result, Ok, Err}
use Rattle.std.proofs.Common.{refl, ◌∙◌, ap}
use Rattle.plinq_source.specs.declared.ending.Ending.{Ending}
use Rattle.plinq_merge.specs.Sending.{Leads}
use Rattle.plinq_merge.specs.inner.Sent.{leads-append}
use Rattle.plinq_run.specs.Runs.{Cause, SinkRefused, Stopped, Other, cause_of}
use Rattle.plinq_passing.specs.declared.passes.Passed.{Passed}
use Rattle.plinq_passing.specs.declared.query_fault.QueryFault.{QueryFault}
use Rattle.plinq_passing.specs.declared.query_fault.QueryFault.TheVariants.{Degree, Growth, Ended, Run}
use Rattle.plinq_passing.specs.Ran.{Ran, BreaksOff}
use Rattle.plinq_passing.specs.Passing.{PassesOn, Stops, Carries, Touches, Touched}

module _ {K B : Type 0} (takes : K → B → K → Type 0) (refuses : K → B → ℕ → K → Type 0) where
  pub touched-none : (s s' : K) → s' ≡ s → Touched takes refuses s s'
  touched-none s s' is = ([], is)

  pub touched-on : (s m s' : K) → Touched takes refuses s m → Touched takes refuses m s' → Touched takes refuses s s'
  touched-on s m s' (first, led) (more, then) = (first ++ more, leads-append (Touches takes refuses) s first more m s' led then)

  pub touched-by : (ys : List B) (s s' : K) → Leads takes s ys s' → Touched takes refuses s s'
  touched-by [] s s' is = ([], is)
  touched-by (y ∷ ys) s s' (m, one, rest) = touched-on s m s' ((y, None) ∷ [], (m, one, refl)) (touched-by ys m s' rest)

  pub touched-refused : (s : K) (y : B) (code : ℕ) (s' : K) → refuses s y code s' → Touched takes refuses s s'
  touched-refused s y code s' is = ((y, Some code) ∷ [], (s', is, refl))

  breaks-touch : (Stops : Type 0) (cause : Cause) (bs : List B) (s s' : K) → BreaksOff takes refuses Stops cause bs s s' → Touched takes refuses s s'
  breaks-touch Stops (SinkRefused code) bs s s' (sent, next, rest, m, parts, leads, refused) =
      touched-on s m s' (touched-by sent s m leads) (touched-refused m next code s' refused)
  breaks-touch Stops Stopped bs s s' (stops, (sent, rest, parts, leads)) = touched-by sent s s' leads
  breaks-touch Stops Other bs s s' (sent, rest, parts, leads) = touched-by sent s s' leads

  pub ran-touches : (Stops : Type 0) (workers : ℕ) (growth : Option (ℕ × ℕ × ℕ)) (bs : List B) (ending : Option Ending) (s : K) (r : Result ⊤ QueryFault)
      (s' : K)
      → Ran takes refuses Stops workers growth bs ending s r s' → Touched takes refuses s s'
  ran-touches Stops workers growth bs ending s (Ok all) s' ran = touched-by bs s s' ran.0
  ran-touches Stops workers growth bs ending s (Err Degree) s' ran = touched-none s s' ran.0
  ran-touches Stops workers growth bs ending s (Err (Growth fault)) s' ran = touched-none s s' ran.0
  ran-touches Stops workers growth bs ending s (Err (Ended e)) s' ran = touched-by bs s s' ran.0
  ran-touches Stops workers growth bs ending s (Err (Run fault)) s' ran = breaks-touch Stops (cause_of fault) bs s s' ran

  -- what no item changes stays the same
  module _ {N : Type 0} (name : K → N) (stays : (s : K) (y : B) (t : K) → takes s y t → name t ≡ name s)
      (stays-refused : (s : K) (y : B) (code : ℕ) (t : K) → refuses s y code t → name t ≡ name s) where
    led-name : (touches : List (B × Option ℕ)) (s s' : K) → Leads (Touches takes refuses) s touches s' → name s' ≡ name s
    led-name [] s s' is = ap name is
    led-name ((y, None) ∷ more) s s' (m, one, rest) = led-name more m s' rest ∙ stays s y m one
    led-name ((y, Some code) ∷ more) s s' (m, one, rest) = led-name more m s' rest ∙ stays-refused s y code m one

    pub touched-name : (s s' : K) → Touched takes refuses s s' → name s' ≡ name s
    touched-name s s' (touches, leads) = led-name touches s s' leads

  -- what was made of one item was passed on
  made-touches : (o : Option B) (k k' : K) → PassesOn takes refuses k o k' → Touched takes refuses k k'
  made-touches None k k' is = touched-none k k' is
  made-touches (Some y) k k' is = touched-by (y ∷ []) k k' (k', is, refl)

  stops-touch : (ended over : Bool) (k : K) (o : Option B) (code : ℕ) (k' : K) → Stops takes refuses ended over k o code k' → Touched takes refuses k k'
  stops-touch ended true k o code k' is = made-touches o k k' is.1
  stops-touch ended false k None code k' is = absurd is
  stops-touch ended false k (Some y) code k' is = touched-refused k y code k' is

  -- items came to steps by position, and what they made of them was passed on
  module _ {L A : Type 0} (turns : L → A → Option B → L → Type 0) (ended : L → Bool) where
    abbrev Takes : Passed L K → A → Passed L K → Type 0
    Takes s x t = (Carries turns (PassesOn takes refuses) s.later s.to x t.later t.to) × (ended t.later ≡ false) × (t.over ≡ false)

    abbrev Refuses : Passed L K → A → ℕ → Passed L K → Type 0
    Refuses s x code t = Carries turns (λ k o k'. Stops takes refuses (ended t.later) t.over k o code k') s.later s.to x t.later t.to

    carried : (touches : List (A × Option ℕ)) (s t : Passed L K) → Leads (Touches Takes Refuses) s touches t → Touched takes refuses s.to t.to
    carried [] s t is = touched-none s.to t.to (ap (λ p. p.to) is)
    carried ((x, None) ∷ more) s t (m, one, rest) =
        touched-on s.to m.to t.to (made-touches one.0.made s.to m.to one.0.passed) (carried more m t rest)
    carried ((x, Some code) ∷ more) s t (m, one, rest) =
        touched-on s.to m.to t.to (stops-touch (ended m.later) m.over s.to one.made code m.to one.passed) (carried more m t rest)

    pub carried-touches : (s t : Passed L K) → Touched Takes Refuses s t → Touched takes refuses s.to t.to
    carried-touches s t (touches, leads) = carried touches s t leads
