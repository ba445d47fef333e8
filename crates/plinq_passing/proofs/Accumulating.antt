-- What an aggregate, a count or a search of what is passed on says of the query.
use Rattle.std.specs.Prelude.{◌≡◌, ◌≢◌, ⊤, ℕ, ◌≤◌, ◌^◌, List, [], ◌∷◌, length, drop, Bool, true, false, Option, Some, None, Result, Ok, Err}
use Rattle.std.specs.Prelude.{MatchResult, IfErr}
use Rattle.std.specs.List.{fold}
use Rattle.std.proofs.Common.{refl, arith, ◌∙◌, ap, subst, sym}
use Rattle.plinq_source.specs.declared.ending.Ending.{Ending}
use Rattle.plinq_source.specs.declared.ending.Ending.TheVariants.{End}
use Rattle.plinq_source.specs.Trace.{Trace}
use Rattle.plinq_aggregate.specs.Folding.{Folding, aggregate_value}
use Rattle.plinq_collect.specs.ItemFoldings.{first_of, counting_items, fold_of-counting_items}
use Rattle.plinq_merge.specs.Sending.{Leads, RefusesNext}
use Rattle.plinq_run.specs.declared.run_fault.RunFault.TheVariants.{Memory, Sink, Tickets, Thread, Incomplete, Cancelled}
use Rattle.plinq_steps.specs.Means.{Follows, Unchanged, undecided}
use Rattle.plinq_passing.specs.declared.keep_first.KeepFirst.{KeepFirst}
use Rattle.plinq_passing.specs.declared.query_fault.QueryFault.{QueryFault}
use Rattle.plinq_passing.specs.declared.query_fault.QueryFault.TheVariants.{Degree, Growth, Ended, Run}
use Rattle.plinq_passing.specs.Ran.{Ran, SearchFails, FailsAlone, EndedOrRefused, EndsUnless, ended_unless, told_first}
use Rattle.plinq_passing.specs.Passing.{FoldsOne, told_folded}

-- ---- how what is left ends

-- if it isn't decided, it ends as the source does
ends-unless : (decided : Bool) (ending : Option Ending) (e : Ending) → ended_unless decided ending ≡ Some e → decided ≡ false → ending ≡ Some e
ends-unless true ending e is none = absurd (let bad : ◌≡◌ {A = Bool} true false = none in cc)
ends-unless false ending e is none = is

-- what doesn't end well isn't decided
still-open : (decided : Bool) (ending : Option Ending) (e : Ending) → ended_unless decided ending ≡ Some e → e ≢ End → decided ≡ false
still-open true ending e is bad = absurd (bad (cc))
still-open false ending e is bad = refl

-- ---- an accumulator

module _ {T A O P K : Type 0} (folding : P → Folding T A O) (by : K → P) (acc : K → Option A) where
  abbrev pub Takes : K → T → K → Type 0
  Takes s y s' = (by s' ≡ by s) × FoldsOne (folding (by s)) (acc s) y (acc s')

  abbrev pub Refuses : K → T → ℕ → K → Type 0
  Refuses s y code s' = ⊤

  pub record HasTaken (s : K) (a : A) (ys : List T) (s' : K) : Type 0 where
    pub same : by s' ≡ by s
    pub is : acc s' ≡ Some (fold (folding (by s)).update a ys)

  pub taken : (ys : List T) (s s' : K) (a : A) → acc s ≡ Some a → Leads Takes s ys s' → HasTaken s a ys s'
  taken [] s s' a start is = record { same = ap by is; is = ap acc is ∙ start }
  taken (y ∷ ys) s s' a start (m, one, rest) =
      let next : acc m ≡ Some ((folding (by s)).update a y) = subst (λ o. FoldsOne (folding (by s)) o y (acc m)) start one.1 in
      let after = taken ys m s' ((folding (by s)).update a y) next rest in
      record {
        same = after.same ∙ one.0;
        is = after.is ∙ ap (λ p. Some (fold (folding p).update ((folding (by s)).update a y) ys)) one.0;
      }

  module _ {X : Type 0} (t : Trace X) (ys : List T) (decided : Bool) (s : K) (start : acc s ≡ Some (folding (by s)).seed) where
    abbrev Value : O → Type 0
    Value out = (out ≡ aggregate_value (folding (by s)) ys) × (decided ≡ false → t.ending ≡ Some End)

    folded-well : (s' : K) (Fails : QueryFault → Type 0) → Leads Takes s ys s' → (decided ≡ false → t.ending ≡ Some End)
        → MatchResult (told_folded (folding (by s')) (Ok tt) (acc s')) Value Fails
    folded-well s' Fails leads ends =
        let has = taken ys s s' (folding (by s)).seed start leads in
        subst (λ p. MatchResult (told_folded (folding p) (Ok tt) (acc s')) Value Fails) (sym has.same)
        (subst (λ o. MatchResult (told_folded (folding (by s)) (Ok tt) o) Value Fails) (sym has.is) (refl, ends))

    pub folded-told : (Stops : Type 0) (workers : ℕ) (growth : Option (ℕ × ℕ × ℕ)) (r : Result ⊤ QueryFault) (s' : K)
        → Ran Takes Refuses Stops workers growth ys (ended_unless decided t.ending) s r s'
        → MatchResult (told_folded (folding (by s')) r (acc s')) Value (SearchFails (decided ≡ false) Stops workers growth t)
    folded-told Stops workers growth (Ok all) s' is = folded-well s' _ is.0 (ends-unless decided t.ending End is.1)
    folded-told Stops workers growth (Err Degree) s' is = is.1
    folded-told Stops workers growth (Err (Growth fault)) s' is = is.1
    folded-told Stops workers growth (Err (Ended e)) s' is =
        let no = still-open decided t.ending e is.1 is.2 in (ends-unless decided t.ending e is.1 no, is.2, no)
    folded-told Stops workers growth (Err (Run Memory)) s' is = tt
    folded-told Stops workers growth (Err (Run (Sink code))) s' is = tt
    folded-told Stops workers growth (Err (Run Tickets)) s' is = tt
    folded-told Stops workers growth (Err (Run Thread)) s' is = tt
    folded-told Stops workers growth (Err (Run Incomplete)) s' is = tt
    folded-told Stops workers growth (Err (Run Cancelled)) s' is = is.0

    pub folded-alone : (r : Result ⊤ QueryFault) (s' : K) → IfErr r EndedOrRefused → Ran Takes Refuses ⊥ 1 None ys (ended_unless decided t.ending) s r s'
        → MatchResult (told_folded (folding (by s')) r (acc s')) Value (FailsAlone (decided ≡ false) t)
    folded-alone (Ok all) s' alone is = folded-well s' _ is.0 (ends-unless decided t.ending End is.1)
    folded-alone (Err Degree) s' alone is = absurd alone
    folded-alone (Err (Growth fault)) s' alone is = absurd alone
    folded-alone (Err (Ended e)) s' alone is =
        let no = still-open decided t.ending e is.1 is.2 in (ends-unless decided t.ending e is.1 no, is.2, no)
    folded-alone (Err (Run Memory)) s' alone is = refl
    folded-alone (Err (Run (Sink code))) s' alone is = refl
    folded-alone (Err (Run Tickets)) s' alone is = absurd alone
    folded-alone (Err (Run Thread)) s' alone is = absurd alone
    folded-alone (Err (Run Incomplete)) s' alone is = absurd alone
    folded-alone (Err (Run Cancelled)) s' alone is = absurd alone

-- ---- a count

pub counted : {T F : Type 0} (E : Type 0) (HasNone : F → Type 0) (ys : List T) → length ys ≤ 2 ^ 40 → (r : Result ℕ F)
    → MatchResult r (λ n. (n ≡ aggregate_value counting_items ys) × E) HasNone → MatchResult r (λ n. (n ≡ length ys) × E) HasNone
counted E HasNone ys few (Ok n) told = (told.0 ∙ fold_of-counting_items ys ∙ omega (arith, few), told.1)
counted E HasNone ys few (Err fault) told = told

-- ---- the first

module _ {B : Type 0} where
  abbrev TakesNone : KeepFirst B → B → KeepFirst B → Type 0
  TakesNone s y s' = ((y ∷ []) ≡ []) × (s' ≡ s)

  abbrev KeepsOne : KeepFirst B → B → ℕ → KeepFirst B → Type 0
  KeepsOne s y code s' = ((y ∷ []) ≢ []) × (s'.item ≡ first_of (y ∷ []))

  no-first : (ys : List B) (s s' : KeepFirst B) → Leads TakesNone s ys s' → first_of ys ≡ None
  no-first [] s s' is = refl
  no-first (y ∷ ys) s s' (m, one, rest) = absurd (let bad : ◌≡◌ {A = List B} (y ∷ []) [] = one.0 in cc)

  the-first : (ys : List B) (s s' : KeepFirst B) (code : ℕ) → RefusesNext TakesNone KeepsOne s ys code s'
      → (y : B) × (s'.item ≡ Some y) × (first_of ys ≡ Some y)
  the-first ys s s' code ([], y, rest, m, parts, leads, last) = (y, last.1, ap first_of parts)
  the-first ys s s' code (b ∷ bs, y, rest, m, parts, leads, last) = absurd (let bad : ◌≡◌ {A = List B} (b ∷ []) [] = leads.1.0 in cc)

  module _ {X : Type 0} (t : Trace X) (ys : List B) (decided : Bool) (s : KeepFirst B) where
    found : (o : Option B) (y : B) → o ≡ Some y → first_of ys ≡ Some y → (o ≡ first_of ys) × (o ≡ None → decided ≡ false → t.ending ≡ Some End)
    found o y is first = (is ∙ sym first, λ none. absurd (let bad : ◌≡◌ {A = Option B} (Some y) None = sym is ∙ none in cc))

    pub first-passed : (Stops : Type 0) (workers : ℕ) (growth : Option (ℕ × ℕ × ℕ)) (r : Result ⊤ QueryFault) (s' : KeepFirst B)
        → Ran TakesNone KeepsOne Stops workers growth ys (ended_unless decided t.ending) s r s'
        → MatchResult (told_first s'.item r) (λ o. (o ≡ first_of ys) × (o ≡ None → decided ≡ false → t.ending ≡ Some End))
        (SearchFails ((first_of ys ≡ None) × (decided ≡ false)) Stops workers growth t)
    first-passed Stops workers growth (Ok all) s' is = (sym (no-first ys s s' is.0), λ none. ends-unless decided t.ending End is.1)
    first-passed Stops workers growth (Err Degree) s' is = is.1
    first-passed Stops workers growth (Err (Growth fault)) s' is = is.1
    first-passed Stops workers growth (Err (Ended e)) s' is =
        let no = still-open decided t.ending e is.1 is.2 in
        (ends-unless decided t.ending e is.1 no, is.2, (no-first ys s s' is.0, no))
    first-passed Stops workers growth (Err (Run Memory)) s' is = tt
    first-passed Stops workers growth (Err (Run (Sink code))) s' is = let one = the-first ys s s' code is in found s'.item one.0 one.1 one.2
    first-passed Stops workers growth (Err (Run Tickets)) s' is = tt
    first-passed Stops workers growth (Err (Run Thread)) s' is = tt
    first-passed Stops workers growth (Err (Run Incomplete)) s' is = tt
    first-passed Stops workers growth (Err (Run Cancelled)) s' is = is.0

-- ---- the one at a position

module _ {B : Type 0} where
  -- all but the first ones, and no list decides that
  pub past : (n : ℕ) → Follows {A = B} {B = B} {C = B} Unchanged (drop n) undecided (drop n) undecided
  past n =
      record {
        made = λ xs. xs;
        decides = undecided;
        was = (λ xs. refl, λ xs. refl);
        makes = λ xs. refl;
        decided = λ xs. refl;
      }

  pub first-past : {X : Type 0} (t : Trace X) (o : Option B) (Stops : Type 0) (workers : ℕ) (growth : Option (ℕ × ℕ × ℕ)) (r : Result (Option B) QueryFault)
      → MatchResult r (λ p. (p ≡ o) × (p ≡ None → EndsUnless false t)) (SearchFails ((o ≡ None) × (false ≡ false)) Stops workers growth t)
      → MatchResult r (λ p. (p ≡ o) × (p ≡ None → t.ending ≡ Some End)) (SearchFails (o ≡ None) Stops workers growth t)
  first-past t o Stops workers growth (Ok p) told = (told.0, λ none. told.1 none refl)
  first-past t o Stops workers growth (Err Degree) told = told
  first-past t o Stops workers growth (Err (Growth fault)) told = told
  first-past t o Stops workers growth (Err (Ended e)) told = (told.0, told.1, told.2.0)
  first-past t o Stops workers growth (Err (Run fault)) told = told
