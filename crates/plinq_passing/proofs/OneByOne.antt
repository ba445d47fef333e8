-- What a run on one thread passes on, item by item.
use Rattle.std.specs.Prelude.{◌≡◌, ℕ, ◌+◌, List, [], ◌∷◌, ◌++◌, take, length, Some, None, Option, ⊤, Bool, Result, Ok, Err, MatchResult, IfErr}
use Rattle.std.specs.List.{filter_map, cons_option}
use Rattle.std.proofs.Common.{refl, arith, ◌∙◌, ap, subst, sym}
use Rattle.std.proofs.lemmas.List.{take_all}
use Rattle.plinq_source.specs.declared.ending.Ending.{Ending}
use Rattle.plinq_source.specs.declared.ending.Ending.TheVariants.{End, Refused, Fault}
use Rattle.plinq_source.specs.Trace.{Trace}
use Rattle.plinq_source.proofs.Steps.{IsNextItem}
use Rattle.plinq_merge.specs.Sending.{Leads, RefusesNext, IsCutOff, TakesEach}
use Rattle.plinq_merge.specs.declared.delivery_fault.DeliveryFault.TheVariants.{Sink as Refusal}
use Rattle.plinq_merge.specs.inner.Sent.{leads-append, cut-after, cut-before}
use Rattle.plinq_run.specs.declared.run_fault.RunFault.TheVariants.{Memory, Sink, Tickets, Thread, Incomplete, Cancelled}
use Rattle.plinq_passing.specs.declared.query_fault.QueryFault.{QueryFault}
use Rattle.plinq_passing.specs.declared.query_fault.QueryFault.TheVariants.{Degree, Growth, Ended, Run}
use Rattle.plinq_passing.specs.Ran.{Ran, EndedOrRefused, HasEnded, told_alone, told_first, told_found, told_not}

-- the items given so far, and the next
pub taken-next : {T : Type 0} (t u : Trace T) (n : ℕ) (x : T) → t ≡ u → IsNextItem t n x → take (n + 1) u.items ≡ take n u.items ++ x ∷ []
taken-next t u n x same next = ap (λ w. take (n + 1) w.items) (sym same) ∙ next.taken ∙ ap (λ w. take n w.items ++ x ∷ []) same

-- one that was taken or refused
pub each-one : {K B : Type 0} (takes : K → B → K → Type 0) (refuses : K → B → ℕ → K → Type 0) (y : B) (s : K) (r : Result ⊤ ℕ) (s' : K)
    → MatchResult r (λ _. takes s y s') (λ code. refuses s y code s') → TakesEach takes refuses s (y ∷ []) r s'
each-one takes refuses y s (Ok all) s' is = (s', is, refl)
each-one takes refuses y s (Err code) s' is = ([], y, [], s, refl, refl, is)

module _ {T B : Type 0} (f : T → Option B) where
  filter_map-one : (o : Option B) (ys zs : List B) → cons_option o (ys ++ zs) ≡ cons_option o ys ++ zs
  filter_map-one None ys zs = refl
  filter_map-one (Some y) ys zs = refl

  made-append : (xs ys : List T) → filter_map f (xs ++ ys) ≡ filter_map f xs ++ filter_map f ys
  made-append [] ys = refl
  made-append (x ∷ xs) ys = ap (cons_option (f x)) (made-append xs ys) ∙ filter_map-one (f x) (filter_map f xs) (filter_map f ys)

  module _ {K : Type 0} (takes : K → B → K → Type 0) (refuses : K → B → ℕ → K → Type 0) where
    -- one item more
    pub leads-more : (before more : List T) (x : T) (s m s' : K) → more ≡ before ++ x ∷ [] → Leads takes s (filter_map f before) m
        → Leads takes m (cons_option (f x) []) s' → Leads takes s (filter_map f more) s'
    leads-more before more x s m s' is first second =
        subst (λ bs. Leads takes s bs s') (sym (ap (filter_map f) is ∙ made-append before (x ∷ [])))
        (leads-append takes s (filter_map f before) (cons_option (f x) []) m s' first second)

    -- all were passed on
    pub leads-all : (xs : List T) (n : ℕ) (s s' : K) → n ≡ length xs → Leads takes s (filter_map f (take n xs)) s'
        → Leads takes s (filter_map f xs) s'
    leads-all xs n s s' all leads = subst (λ ys. Leads takes s (filter_map f ys) s') (take_all n xs (omega (arith, all))) leads

    -- what is made of one of them was refused
    pub refuses-one : (all before rest : List T) (x : T) (s m s' : K) (code : ℕ) → all ≡ (before ++ x ∷ []) ++ rest
        → Leads takes s (filter_map f before) m → IsCutOff takes refuses m (cons_option (f x) []) (Refusal code) s'
        → RefusesNext takes refuses s (filter_map f all) code s'
    refuses-one all before rest x s m s' code parts first cut =
        subst (λ bs. IsCutOff takes refuses s bs (Refusal code) s')
        (sym (ap (filter_map f) parts ∙ made-append (before ++ x ∷ []) rest ∙ ap (λ bs. bs ++ filter_map f rest) (made-append before (x ∷ []))))
        (cut-before takes refuses s _ (filter_map f rest) (Refusal code) s'
        (cut-after takes refuses s (filter_map f before) (cons_option (f x) []) (Refusal code) m s' first cut))

-- what comes of it for the query
pub ran-alone : {K B : Type 0} (takes : K → B → K → Type 0) (refuses : K → B → ℕ → K → Type 0) (ys : List B) (ending : Option Ending) (s : K)
    (r : Result Ending ℕ) (s' : K)
    → MatchResult r (λ e. (Leads takes s ys s') × (ending ≡ Some e)) (λ code. RefusesNext takes refuses s ys code s')
    → Ran takes refuses ⊥ 1 None ys ending s (told_alone r) s'
ran-alone takes refuses ys ending s (Ok End) s' is = is
ran-alone takes refuses ys ending s (Ok (Refused code)) s' is = (is.0, is.1, λ well. absurd (cc))
ran-alone takes refuses ys ending s (Ok (Fault code)) s' is = (is.0, is.1, λ well. absurd (cc))
ran-alone takes refuses ys ending s (Err code) s' is = is

pub alone-told : (r : Result Ending ℕ) → IfErr (told_alone r) EndedOrRefused
alone-told (Ok End) = tt
alone-told (Ok (Refused code)) = tt
alone-told (Ok (Fault code)) = tt
alone-told (Err code) = tt

pub first-alone : {B : Type 0} (item : Option B) (r : Result ⊤ QueryFault) → IfErr r EndedOrRefused → IfErr (told_first item r) HasEnded
first-alone item (Ok all) is = tt
first-alone item (Err Degree) is = is
first-alone item (Err (Growth fault)) is = is
first-alone item (Err (Ended e)) is = tt
first-alone item (Err (Run Memory)) is = is
first-alone item (Err (Run (Sink code))) is = tt
first-alone item (Err (Run Tickets)) is = is
first-alone item (Err (Run Thread)) is = is
first-alone item (Err (Run Incomplete)) is = is
first-alone item (Err (Run Cancelled)) is = is

pub found-alone : {B : Type 0} (r : Result (Option B) QueryFault) → IfErr r HasEnded → IfErr (told_found r) HasEnded
found-alone (Ok o) is = tt
found-alone (Err fault) is = is

pub not-alone : (r : Result Bool QueryFault) → IfErr r HasEnded → IfErr (told_not r) HasEnded
not-alone (Ok b) is = tt
not-alone (Err fault) is = is
