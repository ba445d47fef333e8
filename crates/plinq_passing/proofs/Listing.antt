-- What a run says of a list to which its items were added.
use Rattle.std.specs.Prelude.{◌≡◌, ⊤, ℕ, List, [], Option, Some, None, Result, Ok, Err, MatchResult, IfErr}
use Rattle.std.proofs.Common.{refl, ◌∙◌, ap, subst, sym}
use Rattle.plinq_source.specs.declared.ending.Ending.{Ending}
use Rattle.plinq_source.specs.declared.ending.Ending.TheVariants.{End}
use Rattle.plinq_groups.specs.Collecting.{collecting, fold_of-collecting}
use Rattle.plinq_merge.specs.Sending.{Leads}
use Rattle.plinq_run.specs.declared.run_fault.RunFault.TheVariants.{Memory, Sink, Tickets, Thread, Incomplete, Cancelled}
use Rattle.plinq_passing.specs.declared.query_fault.QueryFault.{QueryFault}
use Rattle.plinq_passing.specs.declared.query_fault.QueryFault.TheVariants.{Degree, Growth, Ended, Run}
use Rattle.plinq_passing.specs.Ran.{Ran, EndedOrRefused}
use Rattle.plinq_passing.specs.Listed.{listed, WasShort, WasShortAlone}
use Rattle.plinq_passing.proofs.Accumulating.{Takes, Refuses, taken}

abbrev value_or : {A : Type 0} → A → Result A QueryFault → A
value_or x (Ok y) = y
value_or x (Err fault) = x

module _ {T P K V : Type 0} (by : K → P) (acc : K → Option (List T)) (items : V → List T) where
  abbrev TakesOne : K → T → K → Type 0
  TakesOne = Takes (λ (p : P). collecting {T = T}) by acc

  abbrev RefusesOne : K → T → ℕ → K → Type 0
  RefusesOne = Refuses (λ (p : P). collecting {T = T}) by acc

  all-came : (ys : List T) (s s' : K) → acc s ≡ Some [] → Leads TakesOne s ys s' → acc s' ≡ Some ys
  all-came ys s s' start leads = (taken (λ (p : P). collecting {T = T}) by acc ys s s' [] start leads).is ∙ ap Some (fold_of-collecting ys)

  module _ (ys : List T) (ending : Option Ending) (s s' : K) (start : acc s ≡ Some []) where
    abbrev IsAll : V × Ending → Type 0
    IsAll it = (items it.0 ≡ ys) × (ending ≡ Some it.1)

    -- what was made of the outcome is the list, and the ending
    all-listed : (e : Ending) → ending ≡ Some e → Leads TakesOne s ys s' → (Fails : QueryFault → Type 0)
        (how : Option (List T) → Result (List T × Ending) QueryFault)
        → how (Some ys) ≡ Ok (ys, e) → (told : Result (V × Ending) QueryFault)
        → MatchResult told (λ it. how (acc s') ≡ Ok (items it.0, it.1)) (λ fault. how (acc s') ≡ Err fault) → MatchResult told IsAll Fails
    all-listed e is leads Fails how well (Ok it) so =
        let same : ◌≡◌ {A = Result (List T × Ending) QueryFault} (Ok (ys, e)) (Ok (items it.0, it.1)) =
        sym well ∙ ap how (sym (all-came ys s s' start leads)) ∙ so in
        let both : (ys, e) ≡ (items it.0, it.1) = ap (value_or (ys, e)) same in
        (ap (λ p. p.0) (sym both), is ∙ ap (λ p. Some p.1) both)
    all-listed e is leads Fails how well (Err fault) so =
        absurd (let bad : ◌≡◌ {A = Result (List T × Ending) QueryFault} (Ok (ys, e)) (Err fault) =
        sym well ∙ ap how (sym (all-came ys s s' start leads)) ∙ so in cc)

    -- there is none, for this reason
    unlisted : (f : QueryFault) (Fails : QueryFault → Type 0) → Fails f → (told : Result (V × Ending) QueryFault)
        → MatchResult told (λ it. ◌≡◌ {A = Result (List T × Ending) QueryFault} (Err f) (Ok (items it.0, it.1)))
        (λ fault. ◌≡◌ {A = Result (List T × Ending) QueryFault} (Err f) (Err fault)) → MatchResult told IsAll Fails
    unlisted f Fails fails (Ok it) so = absurd (let bad : ◌≡◌ {A = Result (List T × Ending) QueryFault} (Err f) (Ok (items it.0, it.1)) = so in cc)
    unlisted f Fails fails (Err fault) so = subst Fails (let same : f ≡ fault = cc in same) fails

    abbrev Told : Result ⊤ QueryFault → Result (V × Ending) QueryFault → Type 0
    Told r told = MatchResult told (λ it. listed r (acc s') ≡ Ok (items it.0, it.1)) (λ fault. listed r (acc s') ≡ Err fault)

    pub listed-told : (Stops : Type 0) (workers : ℕ) (growth : Option (ℕ × ℕ × ℕ)) (r : Result ⊤ QueryFault)
        → Ran TakesOne RefusesOne Stops workers growth ys ending s r s'
        → (told : Result (V × Ending) QueryFault) → Told r told → MatchResult told IsAll (WasShort Stops workers growth)
    listed-told Stops workers growth (Ok all) ran told so = all-listed End ran.1 ran.0 (WasShort Stops workers growth) (listed (Ok tt)) refl told so
    listed-told Stops workers growth (Err Degree) ran told so = unlisted Degree (WasShort Stops workers growth) ran.1 told so
    listed-told Stops workers growth (Err (Growth fault)) ran told so = unlisted (Growth fault) (WasShort Stops workers growth) ran.1 told so
    listed-told Stops workers growth (Err (Ended e)) ran told so = all-listed e ran.1 ran.0 (WasShort Stops workers growth) (listed (Err
        (Ended e))) refl told so
    listed-told Stops workers growth (Err (Run Memory)) ran told so = unlisted (Run Memory) (WasShort Stops workers growth) tt told so
    listed-told Stops workers growth (Err (Run (Sink code))) ran told so = unlisted (Run Memory) (WasShort Stops workers growth) tt told so
    listed-told Stops workers growth (Err (Run Tickets)) ran told so = unlisted (Run Tickets) (WasShort Stops workers growth) tt told so
    listed-told Stops workers growth (Err (Run Thread)) ran told so = unlisted (Run Thread) (WasShort Stops workers growth) tt told so
    listed-told Stops workers growth (Err (Run Incomplete)) ran told so = unlisted (Run Incomplete) (WasShort Stops workers growth) tt told so
    listed-told Stops workers growth (Err (Run Cancelled)) ran told so = unlisted (Run Cancelled) (WasShort Stops workers growth) ran.0 told so

    -- on one thread nothing but memory can be short
    pub listed-alone : (r : Result ⊤ QueryFault) → IfErr r EndedOrRefused → Ran TakesOne RefusesOne ⊥ 1 None ys ending s r s'
        → (told : Result (V × Ending) QueryFault) → Told r told → MatchResult told IsAll WasShortAlone
    listed-alone (Ok all) alone ran told so = all-listed End ran.1 ran.0 WasShortAlone (listed (Ok tt)) refl told so
    listed-alone (Err Degree) alone ran told so = absurd alone
    listed-alone (Err (Growth fault)) alone ran told so = absurd alone
    listed-alone (Err (Ended e)) alone ran told so = all-listed e ran.1 ran.0 WasShortAlone (listed (Err (Ended e))) refl told so
    listed-alone (Err (Run Memory)) alone ran told so = absurd alone
    listed-alone (Err (Run (Sink code))) alone ran told so = unlisted (Run Memory) WasShortAlone refl told so
    listed-alone (Err (Run Tickets)) alone ran told so = absurd alone
    listed-alone (Err (Run Thread)) alone ran told so = absurd alone
    listed-alone (Err (Run Incomplete)) alone ran told so = absurd alone
    listed-alone (Err (Run Cancelled)) alone ran told so = absurd alone
