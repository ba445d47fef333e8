-- What steps by position make of items, and pass on, is what they make of the list.
use Rattle.std.specs.Prelude.{◌≡◌, ⊤, ℕ, List, [], ◌∷◌, ◌++◌, Bool, true, false, Option, Some, None, Result, Ok, Err}
use Rattle.std.specs.List.{cons_option}
use Rattle.std.proofs.Common.{refl, ◌∙◌, ap, subst, sym}
use Rattle.plinq_source.specs.declared.ending.Ending.{Ending}
use Rattle.plinq_merge.specs.Sending.{Leads, TakesBeginning, RefusesNext, singles}
use Rattle.plinq_ops.specs.declared.merge_option.MergeOption.TheVariants.{NotBuffered}
use Rattle.plinq_ops.specs.Batches.{batches}
use Rattle.plinq_collect.specs.Telling.{items_of}
use Rattle.plinq_merge.specs.inner.Sent.{leads-append, cut-after}
use Rattle.plinq_merge.specs.declared.delivery_fault.DeliveryFault.TheVariants.{Memory as NoMore, Sink as Refusal}
use Rattle.plinq_run.specs.declared.run_fault.RunFault.TheVariants.{Memory, Sink, Tickets, Thread, Incomplete, Cancelled}
use Rattle.plinq_steps.specs.Means.{GoesOn}
use Rattle.plinq_passing.specs.declared.passes.Passed.{Passed}
use Rattle.plinq_passing.specs.declared.query_fault.QueryFault.{QueryFault}
use Rattle.plinq_passing.specs.declared.query_fault.QueryFault.TheVariants.{Degree, Growth, Ended, Run}
use Rattle.plinq_passing.specs.Ran.{Ran, ended_unless}
use Rattle.plinq_passing.proofs.Searching.{unbuffered}
use Rattle.plinq_passing.specs.Passing.{PassesOn, RefusesIt, Stops, Carries, told_over}

items-singly : {B : Type 0} (xs : List B) → items_of (singles xs) ≡ xs
items-singly [] = refl
items-singly (x ∷ xs) = ap (λ ys. x ∷ ys) (items-singly xs)

-- the items of batches of a query that isn't buffered
pub items-unbuffered : {B : Type 0} (xs : List B) (e : Option Ending) → items_of (batches NotBuffered (record { items = xs; ending = e })) ≡ xs
items-unbuffered xs e = ap items_of (unbuffered xs e) ∙ items-singly xs

module _ {K B : Type 0} (takes : K → B → K → Type 0) (refuses : K → B → ℕ → K → Type 0) where
  -- what was made of one item was passed on
  leads-one : (o : Option B) (k k' : K) → PassesOn takes refuses k o k' → Leads takes k (cons_option o []) k'
  leads-one None k k' is = is
  leads-one (Some y) k k' is = (k', is, refl)

  one-more : (o : Option B) (ys : List B) → cons_option o [] ++ ys ≡ cons_option o ys
  one-more None ys = refl
  one-more (Some y) ys = refl

  leads-made : (o : Option B) (ys : List B) (k m k' : K) → PassesOn takes refuses k o m → Leads takes m ys k' → Leads takes k (cons_option o ys) k'
  leads-made o ys k m k' first more =
      subst (λ zs. Leads takes k zs k') (one-more o ys) (leads-append takes k (cons_option o []) ys m k' (leads-one o k m first) more)

  refuses-made : (o : Option B) (ys : List B) (k k' : K) (code : ℕ) → RefusesIt takes refuses k o code k'
      → RefusesNext takes refuses k (cons_option o ys) code k'
  refuses-made None ys k k' code is = absurd is
  refuses-made (Some y) ys k k' code is = ([], y, ys, k, refl, refl, is)

  module _ {L A : Type 0} (turns : L → A → Option B → L → Type 0) (ended : L → Bool) (Means : L → (List A → List B) → (List A → Bool) → Type 0)
      (goes_on : (l : L) → ended l ≡ false → (g : List A → List B) (d : List A → Bool) → Means l g d → (x : A) (o : Option B) (l' : L) → turns l x o l'
      → GoesOn (Means l') g d x o)
      (at_end : (l : L) → ended l ≡ true → (g : List A → List B) (d : List A → Bool) → Means l g d → (xs : List A) → (g xs ≡ []) × (d xs ≡ true))
      (of_none : (l : L) → ended l ≡ false → (g : List A → List B) (d : List A → Bool) → Means l g d → (g [] ≡ []) × (d [] ≡ false)) where
    abbrev Takes : Passed L K → A → Passed L K → Type 0
    Takes s x t = (Carries turns (PassesOn takes refuses) s.later s.to x t.later t.to) × (ended t.later ≡ false) × (t.over ≡ false)

    abbrev Refuses : Passed L K → A → ℕ → Passed L K → Type 0
    Refuses s x code t = Carries turns (λ k o k'. Stops takes refuses (ended t.later) t.over k o code k') s.later s.to x t.later t.to

    -- all came
    record HasPassed (s t : Passed L K) (ys : List B) (decided : Bool) : Type 0 where
      pub leads : Leads takes s.to ys t.to
      pub is : decided ≡ false

    passed-all : (xs : List A) (s t : Passed L K) (g : List A → List B) (d : List A → Bool) → ended s.later ≡ false → Means s.later g d
        → Leads Takes s xs t → HasPassed s t (g xs) (d xs)
    passed-all [] s t g d more means is =
        let none = of_none s.later more g d means in
        record { leads = subst (λ ys. Leads takes s.to ys t.to) (sym none.0) (ap (λ p. p.to) is); is = none.1 }
    passed-all (x ∷ xs) s t g d more means (m, one, rest) =
        let on = goes_on s.later more g d means x one.0.made m.later one.0.turned in
        let after = passed-all xs m t on.rest on.decides one.1 on.means rest in
        record {
          leads = subst (λ ys. Leads takes s.to ys t.to) (sym (on.makes xs)) (leads-made one.0.made (on.rest xs) s.to m.to t.to one.0.passed after.leads);
          is = on.decided xs ∙ after.is;
        }

    -- a beginning came
    passed-some : (sent rest : List A) (s t : Passed L K) (g : List A → List B) (d : List A → Bool) → ended s.later ≡ false → Means s.later g d
        → Leads Takes s sent t → TakesBeginning takes s.to (g (sent ++ rest)) t.to
    passed-some [] rest s t g d more means is = ([], g rest, refl, ap (λ p. p.to) is)
    passed-some (x ∷ sent) rest s t g d more means (m, one, others) =
        let on = goes_on s.later more g d means x one.0.made m.later one.0.turned in
        let after = passed-some sent rest m t on.rest on.decides one.1 on.means others in
        subst (λ ys. TakesBeginning takes s.to ys t.to) (one-more one.0.made (on.rest (sent ++ rest)) ∙ sym (on.makes (sent ++ rest)))
        (cut-after takes refuses s.to (cons_option one.0.made []) (on.rest (sent ++ rest)) NoMore m.to t.to (leads-one one.0.made s.to m.to one.0.passed) after)

    -- no more was asked for
    passed-over : (sent : List A) (x : A) (rest : List A) (s m t : Passed L K) (code : ℕ) (g : List A → List B) (d : List A → Bool)
        → ended s.later ≡ false → Means s.later g d → Leads Takes s sent m → Refuses m x code t → t.over ≡ true
        → (Leads takes s.to (g (sent ++ x ∷ rest)) t.to) × (d (sent ++ x ∷ rest) ≡ true)
    passed-over [] x rest s m t code g d more means is last over =
        let stops : (ended t.later ≡ true) × PassesOn takes refuses m.to last.made t.to =
        subst (λ b. Stops takes refuses (ended t.later) b m.to last.made code t.to) over last.passed in
        let on = goes_on s.later more g d means x last.made t.later (subst (λ p. turns p.later x last.made t.later) is last.turned) in
        let end = at_end t.later stops.0 on.rest on.decides on.means rest in (
          subst (λ ys. Leads takes s.to ys t.to) (sym (on.makes rest ∙ ap (cons_option last.made) end.0))
              (leads-one last.made s.to t.to (subst (λ p. PassesOn takes refuses p.to last.made t.to) is stops.1)),
          on.decided rest ∙ end.1,
        )
    passed-over (y ∷ sent) x rest s m t code g d more means (n, one, others) last over =
        let on = goes_on s.later more g d means y one.0.made n.later one.0.turned in
        let after = passed-over sent x rest n m t code on.rest on.decides one.1 on.means others last over in (
          subst (λ ys. Leads takes s.to ys t.to) (sym (on.makes (sent ++ x ∷ rest)))
              (leads-made one.0.made (on.rest (sent ++ x ∷ rest)) s.to n.to t.to one.0.passed after.0),
          on.decided (sent ++ x ∷ rest) ∙ after.1,
        )

    -- one was refused
    passed-refused : (sent : List A) (x : A) (rest : List A) (s m t : Passed L K) (code : ℕ) (g : List A → List B) (d : List A → Bool)
        → ended s.later ≡ false → Means s.later g d → Leads Takes s sent m → Refuses m x code t → t.over ≡ false
        → RefusesNext takes refuses s.to (g (sent ++ x ∷ rest)) code t.to
    passed-refused [] x rest s m t code g d more means is last over =
        let stops : RefusesIt takes refuses m.to last.made code t.to =
        subst (λ b. Stops takes refuses (ended t.later) b m.to last.made code t.to) over last.passed in
        let on = goes_on s.later more g d means x last.made t.later (subst (λ p. turns p.later x last.made t.later) is last.turned) in
        subst (λ ys. RefusesNext takes refuses s.to ys code t.to) (sym (on.makes rest))
        (refuses-made last.made (on.rest rest) s.to t.to code (subst (λ p. RefusesIt takes refuses p.to last.made code t.to) is stops))
    passed-refused (y ∷ sent) x rest s m t code g d more means (n, one, others) last over =
        let on = goes_on s.later more g d means y one.0.made n.later one.0.turned in
        let after = passed-refused sent x rest n m t code on.rest on.decides one.1 on.means others last over in
        subst (λ ys. RefusesNext takes refuses s.to ys code t.to) (one-more one.0.made (on.rest (sent ++ x ∷ rest)) ∙ sym (on.makes (sent ++ x ∷ rest)))
        (cut-after takes refuses s.to (cons_option one.0.made []) (on.rest (sent ++ x ∷ rest)) (Refusal code) n.to t.to
        (leads-one one.0.made s.to n.to one.0.passed) after)

    module _ (Stops : Type 0) (workers : ℕ) (growth : Option (ℕ × ℕ × ℕ)) (xs : List A) (ending : Option Ending) (s t : Passed L K) (g : List A
        → List B) (d : List A → Bool)
        (more : ended s.later ≡ false) (means : Means s.later g d) where
      abbrev Went : Result ⊤ QueryFault → Type 0
      Went r = Ran takes refuses Stops workers growth (g xs) (ended_unless (d xs) ending) s.to r t.to

      stopped : (code : ℕ) (over : Bool) → t.over ≡ over → RefusesNext Takes Refuses s xs code t → Went (told_over (Err (Run (Sink code))) over)
      stopped code true over (sent, x, rest, m, parts, leads, last) =
          let came = passed-over sent x rest s m t code g d more means leads last over in (
            subst (λ zs. Leads takes s.to (g zs) t.to) (sym parts) came.0,
            ap (λ is. ended_unless is ending) (ap d parts ∙ came.1),
          )
      stopped code false over (sent, x, rest, m, parts, leads, last) =
          subst (λ zs. RefusesNext takes refuses s.to (g zs) code t.to) (sym parts) (passed-refused sent x rest s m t code g d more means leads last over)

      some-came : TakesBeginning Takes s xs t → TakesBeginning takes s.to (g xs) t.to
      some-came (sent, rest, parts, leads) =
          subst (λ zs. TakesBeginning takes s.to (g zs) t.to) (sym parts) (passed-some sent rest s t g d more means leads)

      -- how a run into steps by position went
      pub passed-ran : (r : Result ⊤ QueryFault) → Ran Takes Refuses Stops workers growth xs ending s r t → Went (told_over r t.over)
      passed-ran (Ok all) ran =
          let came = passed-all xs s t g d more means ran.0 in (came.leads, ap (λ is. ended_unless is ending) came.is ∙ ran.1)
      passed-ran (Err Degree) ran = (ap (λ p. p.to) ran.0, ran.1)
      passed-ran (Err (Growth fault)) ran = (ap (λ p. p.to) ran.0, ran.1)
      passed-ran (Err (Ended e)) ran =
          let came = passed-all xs s t g d more means ran.0 in (came.leads, ap (λ is. ended_unless is ending) came.is ∙ ran.1, ran.2)
      passed-ran (Err (Run Memory)) ran = some-came ran
      passed-ran (Err (Run (Sink code))) ran = stopped code t.over refl ran
      passed-ran (Err (Run Tickets)) ran = some-came ran
      passed-ran (Err (Run Thread)) ran = some-came ran
      passed-ran (Err (Run Incomplete)) ran = some-came ran
      passed-ran (Err (Run Cancelled)) ran = (ran.0, some-came ran.1)

      -- the same of the items of batches
      pub passed-batches : (r : Result ⊤ QueryFault)
          → Ran Takes Refuses Stops workers growth (items_of (batches NotBuffered (record { items = xs; ending = ending }))) ending s r t
          → Went (told_over r t.over)
      passed-batches r ran = passed-ran r (subst (λ ys. Ran Takes Refuses Stops workers growth ys ending s r t) (items-unbuffered xs ending) ran)
