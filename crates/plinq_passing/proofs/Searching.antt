-- What a search finds among what steps make.
use Rattle.std.specs.Prelude.{◌≡◌, ◌≢◌, ⊤, ℕ, List, [], ◌∷◌, ◌++◌, Bool, true, false, cond, not, ◌||◌, ◌&&◌}
use Rattle.std.specs.Prelude.{Some, None, is_some, Option, Result, Ok, Err, MatchResult}
use Rattle.std.specs.List.{filter_map, cons_option, list_any, list_all}
use Rattle.std.specs.Bool.{beq}
use Rattle.std.proofs.Common.{refl, ◌∙◌, ap, subst, sym}
use Rattle.plinq_source.specs.declared.ending.Ending.{Ending}
use Rattle.plinq_source.specs.declared.ending.Ending.TheVariants.{End}
use Rattle.plinq_source.specs.Trace.{Trace}
use Rattle.plinq_collect.specs.ItemFoldings.{first_of}
use Rattle.plinq_merge.specs.Sending.{Leads, RefusesNext, singles}
use Rattle.plinq_ops.specs.declared.merge_option.MergeOption.TheVariants.{NotBuffered}
use Rattle.plinq_ops.specs.Batches.{batches}
use Rattle.plinq_run.specs.Runs.{Cause, SinkRefused, Stopped, Other, cause_of}
use Rattle.plinq_run.specs.declared.run_fault.RunFault.TheVariants.{Memory, Sink, Tickets, Thread, Incomplete, Cancelled}
use Rattle.plinq_passing.specs.declared.keep_first.KeepFirst.{KeepFirst}
use Rattle.plinq_passing.specs.declared.query_fault.QueryFault.{QueryFault}
use Rattle.plinq_passing.specs.declared.query_fault.QueryFault.TheVariants.{Degree, Growth, Ended, Run}
use Rattle.plinq_passing.specs.Ran.{Ran, BreaksOff, SearchFails, told_first, told_found, told_not}
use Rattle.plinq_steps.specs.Makes.{selected, passed}

-- ---- the first item

-- batches of a query that isn't buffered have an item each
pub unbuffered : {B : Type 0} (xs : List B) (e : Option Ending) → batches NotBuffered (record { items = xs; ending = e }) ≡ singles xs
unbuffered [] e = refl
unbuffered (x ∷ xs) e = ap (λ bs. (x ∷ []) ∷ bs) (unbuffered xs e)

-- what comes item by item comes in batches of one
module _ {K B : Type 0} (A : K → List B → K → Type 0) (R : K → List B → ℕ → K → Type 0) where
  abbrev TakesOne : K → B → K → Type 0
  TakesOne s y s' = A s (y ∷ []) s'

  abbrev RefusesOne : K → B → ℕ → K → Type 0
  RefusesOne s y code s' = R s (y ∷ []) code s'

  singles-append : (xs ys : List B) → singles (xs ++ ys) ≡ singles xs ++ singles ys
  singles-append [] ys = refl
  singles-append (x ∷ xs) ys = ap (λ bs. (x ∷ []) ∷ bs) (singles-append xs ys)

  leads-singles : (ys : List B) (s s' : K) → Leads TakesOne s ys s' → Leads A s (singles ys) s'
  leads-singles [] s s' is = is
  leads-singles (y ∷ ys) s s' (m, one, more) = (m, one, leads-singles ys m s' more)

  breaks-singles : (Stops : Type 0) (cause : Cause) (ys : List B) (s s' : K) → BreaksOff TakesOne RefusesOne Stops cause ys s s'
      → BreaksOff A R Stops cause (singles ys) s s'
  breaks-singles Stops (SinkRefused code) ys s s' (sent, next, rest, m, parts, leads, refused) =
      (singles sent, next ∷ [], singles rest, m, ap singles parts ∙ singles-append sent (next ∷ rest), leads-singles sent s m leads, refused)
  breaks-singles Stops Stopped ys s s' (stops, (sent, rest, parts, leads)) =
      (stops, (singles sent, singles rest, ap singles parts ∙ singles-append sent rest, leads-singles sent s s' leads))
  breaks-singles Stops Other ys s s' (sent, rest, parts, leads) =
      (singles sent, singles rest, ap singles parts ∙ singles-append sent rest, leads-singles sent s s' leads)

  pub ran-singles : (Stops : Type 0) (workers : ℕ) (growth : Option (ℕ × ℕ × ℕ)) (ys : List B) (ending : Option Ending) (s : K) (r : Result ⊤ QueryFault)
      (s' : K)
      → Ran TakesOne RefusesOne Stops workers growth ys ending s r s' → Ran A R Stops workers growth (singles ys) ending s r s'
  ran-singles Stops workers growth ys ending s (Ok all) s' ran = (leads-singles ys s s' ran.0, ran.1)
  ran-singles Stops workers growth ys ending s (Err Degree) s' ran = ran
  ran-singles Stops workers growth ys ending s (Err (Growth fault)) s' ran = ran
  ran-singles Stops workers growth ys ending s (Err (Ended e)) s' ran = (leads-singles ys s s' ran.0, ran.1, ran.2)
  ran-singles Stops workers growth ys ending s (Err (Run fault)) s' ran = breaks-singles Stops (cause_of fault) ys s s' ran

module _ {B : Type 0} where
  abbrev pub Takes : KeepFirst B → List B → KeepFirst B → Type 0
  Takes s batch s' = (batch ≡ []) × (s' ≡ s)

  abbrev pub Keeps : KeepFirst B → List B → ℕ → KeepFirst B → Type 0
  Keeps s batch code s' = (batch ≢ []) × (s'.item ≡ first_of batch)

  none-refused : (s s' : KeepFirst B) (code : ℕ) → RefusesNext Takes Keeps s [] code s' → ⊥
  none-refused s s' code ([], next, rest, m, parts, leads, refused) = absurd (let bad : ◌≡◌ {A = List (List B)} [] (next ∷ rest) = parts in cc)
  none-refused s s' code (b ∷ bs, next, rest, m, parts, leads, refused) =
      absurd (let bad : ◌≡◌ {A = List (List B)} [] (b ∷ (bs ++ next ∷ rest)) = parts in cc)

  refused-first : (s s' : KeepFirst B) (x : B) (more : List (List B)) (code : ℕ) → RefusesNext Takes Keeps s ((x ∷ []) ∷ more) code s' → s'.item ≡ Some x
  refused-first s s' x more code ([], next, rest, m, parts, leads, refused) =
      let head : x ∷ [] ≡ next = cc in refused.1 ∙ ap first_of (sym head)
  refused-first s s' x more code (b ∷ bs, next, rest, m, parts, leads, refused) =
      let head : x ∷ [] ≡ b = cc in
      let empty : b ≡ [] = leads.1.0 in
      absurd (let bad : ◌≡◌ {A = List B} (x ∷ []) [] = head ∙ empty in cc)

  some-first : (x : B) (E : Type 0) (o : Option B) → o ≡ Some x → (o ≡ Some x) × (o ≡ None → E)
  some-first x E o is = (is, λ none. absurd (let bad : ◌≡◌ {A = Option B} (Some x) None = sym is ∙ none in cc))

  module _ {T : Type 0} (Stops : Type 0) (workers : ℕ) (growth : Option (ℕ × ℕ × ℕ)) (t : Trace T) where
    pub first-told : (xs : List B) (s : KeepFirst B) (r : Result ⊤ QueryFault) (s' : KeepFirst B)
        → Ran Takes Keeps Stops workers growth (batches NotBuffered (record { items = xs; ending = t.ending })) t.ending s r s'
        → MatchResult (told_first s'.item r) (λ o. (o ≡ first_of xs) × (o ≡ None → t.ending ≡ Some End))
        (SearchFails (first_of xs ≡ None) Stops workers growth t)
    first-told [] s (Ok all) s' ran = (refl, λ none. ran.1)
    first-told [] s (Err Degree) s' ran = ran.1
    first-told [] s (Err (Growth fault)) s' ran = ran.1
    first-told [] s (Err (Ended e)) s' ran = (ran.1, ran.2, refl)
    first-told [] s (Err (Run Memory)) s' ran = tt
    first-told [] s (Err (Run (Sink code))) s' ran = absurd (none-refused s s' code ran)
    first-told [] s (Err (Run Tickets)) s' ran = tt
    first-told [] s (Err (Run Thread)) s' ran = tt
    first-told [] s (Err (Run Incomplete)) s' ran = tt
    first-told [] s (Err (Run Cancelled)) s' ran = ran.0
    first-told (x ∷ xs) s (Ok all) s' ran = absurd (let bad : ◌≡◌ {A = List B} (x ∷ []) [] = ran.0.1.0 in cc)
    first-told (x ∷ xs) s (Err Degree) s' ran = ran.1
    first-told (x ∷ xs) s (Err (Growth fault)) s' ran = ran.1
    first-told (x ∷ xs) s (Err (Ended e)) s' ran = absurd (let bad : ◌≡◌ {A = List B} (x ∷ []) [] = ran.0.1.0 in cc)
    first-told (x ∷ xs) s (Err (Run Memory)) s' ran = tt
    first-told (x ∷ xs) s (Err (Run (Sink code))) s' ran = some-first x (t.ending ≡ Some End) s'.item (refused-first s s' x _ code ran)
    first-told (x ∷ xs) s (Err (Run Tickets)) s' ran = tt
    first-told (x ∷ xs) s (Err (Run Thread)) s' ran = tt
    first-told (x ∷ xs) s (Err (Run Incomplete)) s' ran = tt
    first-told (x ∷ xs) s (Err (Run Cancelled)) s' ran = ran.0

    -- the same where items come one by one
    pub first-singly : (xs : List B) (s : KeepFirst B) (r : Result ⊤ QueryFault) (s' : KeepFirst B)
        → Ran (λ k y k'. Takes k (y ∷ []) k') (λ k y code k'. Keeps k (y ∷ []) code k') Stops workers growth xs t.ending s r s'
        → MatchResult (told_first s'.item r) (λ o. (o ≡ first_of xs) × (o ≡ None → t.ending ≡ Some End))
        (SearchFails (first_of xs ≡ None) Stops workers growth t)
    first-singly xs s r s' ran =
        first-told xs s r s' (subst (λ bs. Ran Takes Keeps Stops workers growth bs t.ending s r s') (sym (unbuffered xs t.ending))
        (ran-singles Takes Keeps Stops workers growth xs t.ending s r s' ran))

-- ---- whether there is one

module _ {T : Type 0} (Stops : Type 0) (workers : ℕ) (growth : Option (ℕ × ℕ × ℕ)) (t : Trace T) (E : Type 0) where
  module _ {None-found None-so : Type 0} (move : None-found → None-so) where
    found-by : {B : Type 0} (o : Option B) (is : Bool) → is_some o ≡ is → (r : Result (Option B) QueryFault)
        → MatchResult r (λ p. (p ≡ o) × (p ≡ None → E)) (SearchFails None-found Stops workers growth t)
        → MatchResult (told_found r) (λ b. (b ≡ is) × (b ≡ false → E)) (SearchFails None-so Stops workers growth t)
    found-by o is so (Ok None) told = (ap is_some told.0 ∙ so, λ none. told.1 refl)
    found-by o is so (Ok (Some y)) told = (ap is_some told.0 ∙ so, λ none. absurd (let bad : ◌≡◌ {A = Bool} true false = none in cc))
    found-by o is so (Err Degree) told = told
    found-by o is so (Err (Growth fault)) told = told
    found-by o is so (Err (Ended e)) told = (told.0, told.1, move told.2)
    found-by o is so (Err (Run fault)) told = told

    not-by : (is so : Bool) → is ≡ not so → (r : Result Bool QueryFault)
        → MatchResult r (λ b. (b ≡ is) × (b ≡ false → E)) (SearchFails None-found Stops workers growth t)
        → MatchResult (told_not r) (λ b. (b ≡ so) × (b ≡ true → E)) (SearchFails None-so Stops workers growth t)
    not-by is true same (Ok false) told = (refl, λ all. told.1 refl)
    not-by is false same (Ok false) told = absurd (let bad : ◌≡◌ {A = Bool} false true = told.0 ∙ same in cc)
    not-by is true same (Ok true) told = absurd (let bad : ◌≡◌ {A = Bool} true false = told.0 ∙ same in cc)
    not-by is false same (Ok true) told = (refl, λ all. absurd (let bad : ◌≡◌ {A = Bool} false true = all in cc))
    not-by is so same (Err Degree) told = told
    not-by is so same (Err (Growth fault)) told = told
    not-by is so same (Err (Ended e)) told = (told.0, told.1, move told.2)
    not-by is so same (Err (Run fault)) told = told

  false-true : (is so : Bool) → is ≡ not so → is ≡ false → so ≡ true
  false-true is true same none = refl
  false-true is false same none = absurd (let bad : ◌≡◌ {A = Bool} true false = sym same ∙ none in cc)

  pub found-told : {B : Type 0} (o : Option B) (is : Bool) → is_some o ≡ is → (r : Result (Option B) QueryFault)
      → MatchResult r (λ p. (p ≡ o) × (p ≡ None → E)) (SearchFails (o ≡ None) Stops workers growth t)
      → MatchResult (told_found r) (λ b. (b ≡ is) × (b ≡ false → E)) (SearchFails (is ≡ false) Stops workers growth t)
  found-told o is so r told = found-by (λ none. sym so ∙ ap is_some none) o is so r told

  -- the same of another truth value that is the same
  pub found-same : (is so : Bool) → is ≡ so → (r : Result Bool QueryFault)
      → MatchResult r (λ b. (b ≡ is) × (b ≡ false → E)) (SearchFails (is ≡ false) Stops workers growth t)
      → MatchResult r (λ b. (b ≡ so) × (b ≡ false → E)) (SearchFails (so ≡ false) Stops workers growth t)
  found-same is so same r told = subst (λ it. MatchResult r (λ b. (b ≡ it) × (b ≡ false → E)) (SearchFails (it ≡ false) Stops workers growth t)) same told

  pub not-told : (is so : Bool) → is ≡ not so → (r : Result Bool QueryFault)
      → MatchResult r (λ b. (b ≡ is) × (b ≡ false → E)) (SearchFails (is ≡ false) Stops workers growth t)
      → MatchResult (told_not r) (λ b. (b ≡ so) × (b ≡ true → E)) (SearchFails (so ≡ true) Stops workers growth t)
  not-told is so same r told = not-by (false-true is so same) is so same r told

  -- the same where a source that refused is reported only if that was undecided
  module _ (Undecided : Type 0) where
    pub found-left : {B : Type 0} (o : Option B) (is : Bool) → is_some o ≡ is → (r : Result (Option B) QueryFault)
        → MatchResult r (λ p. (p ≡ o) × (p ≡ None → E)) (SearchFails ((o ≡ None) × Undecided) Stops workers growth t)
        → MatchResult (told_found r) (λ b. (b ≡ is) × (b ≡ false → E)) (SearchFails ((is ≡ false) × Undecided) Stops workers growth t)
    found-left o is so r told = found-by (λ none. (sym so ∙ ap is_some none.0, none.1)) o is so r told

    pub same-left : (is so : Bool) → is ≡ so → (r : Result Bool QueryFault)
        → MatchResult r (λ b. (b ≡ is) × (b ≡ false → E)) (SearchFails ((is ≡ false) × Undecided) Stops workers growth t)
        → MatchResult r (λ b. (b ≡ so) × (b ≡ false → E)) (SearchFails ((so ≡ false) × Undecided) Stops workers growth t)
    same-left is so same r told =
        subst (λ it. MatchResult r (λ b. (b ≡ it) × (b ≡ false → E)) (SearchFails ((it ≡ false) × Undecided) Stops workers growth t)) same told

    pub not-left : (is so : Bool) → is ≡ not so → (r : Result Bool QueryFault)
        → MatchResult r (λ b. (b ≡ is) × (b ≡ false → E)) (SearchFails ((is ≡ false) × Undecided) Stops workers growth t)
        → MatchResult (told_not r) (λ b. (b ≡ so) × (b ≡ true → E)) (SearchFails ((so ≡ true) × Undecided) Stops workers growth t)
    not-left is so same r told = not-by (λ none. (false-true is so same none.0, none.1)) is so same r told

-- ---- what is left of items, and what is made of them

module _ {T Y : Type 0} (f : T → Option Y) (p : Y → Bool) where
  one-passed : (b : Bool) (y : Y) (left : List Y) (rest : Bool) → is_some (first_of left) ≡ rest
      → is_some (first_of (cons_option (cond b (Some y) None) left)) ≡ (b || rest)
  one-passed true y left rest is = refl
  one-passed false y left rest is = is

  more-passed : (o : Option Y) (left ys : List Y) → is_some (first_of left) ≡ list_any p ys
      → is_some (first_of (cons_option (passed p o) left)) ≡ list_any p (cons_option o ys)
  more-passed None left ys is = is
  more-passed (Some y) left ys is = one-passed (p y) y left (list_any p ys) is

  -- some item is left if some item passes
  pub any-passed : (xs : List T) → is_some (first_of (filter_map (λ x. passed p (f x)) xs)) ≡ list_any p (filter_map f xs)
  any-passed [] = refl
  any-passed (x ∷ xs) = more-passed (f x) (filter_map (λ x. passed p (f x)) xs) (filter_map f xs) (any-passed xs)

  is-true : (b : Bool) → beq b true ≡ b
  is-true true = refl
  is-true false = refl

  more-true : (o : Option Y) (bs : List Bool) (ys : List Y) → list_any (λ b. beq b true) bs ≡ list_any p ys
      → list_any (λ b. beq b true) (cons_option (selected p o) bs) ≡ list_any p (cons_option o ys)
  more-true None bs ys is = is
  more-true (Some y) bs ys is = ap (λ b. b || list_any (λ b. beq b true) bs) (is-true (p y)) ∙ ap (λ b. p y || b) is

  -- some answer is true if some item passes
  pub any-true : (xs : List T) → list_any (λ b. beq b true) (filter_map (λ x. selected p (f x)) xs) ≡ list_any p (filter_map f xs)
  any-true [] = refl
  any-true (x ∷ xs) = more-true (f x) (filter_map (λ x. selected p (f x)) xs) (filter_map f xs) (any-true xs)

  one-false : (b : Bool) (rest : Bool) (others : Bool) → others ≡ not rest → (beq b false || others) ≡ not (b && rest)
  one-false true rest others is = is
  one-false false rest others is = refl

  more-false : (o : Option Y) (bs : List Bool) (ys : List Y) → list_any (λ b. beq b false) bs ≡ not (list_all p ys)
      → list_any (λ b. beq b false) (cons_option (selected p o) bs) ≡ not (list_all p (cons_option o ys))
  more-false None bs ys is = is
  more-false (Some y) bs ys is = one-false (p y) (list_all p ys) (list_any (λ b. beq b false) bs) is

  -- some answer is false unless every item passes
  pub any-false : (xs : List T) → list_any (λ b. beq b false) (filter_map (λ x. selected p (f x)) xs) ≡ not (list_all p (filter_map f xs))
  any-false [] = refl
  any-false (x ∷ xs) = more-false (f x) (filter_map (λ x. selected p (f x)) xs) (filter_map f xs) (any-false xs)
