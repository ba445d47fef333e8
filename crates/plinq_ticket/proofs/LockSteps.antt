-- Each step of a pass keeps the lock lawful, and reports what its play says.
use Rattle.std.proofs.Common.{◌≡◌, ℕ, zero, suc, ◌+◌, ◌<◌, ◌≤◌, ◌==◌, Bool, true, false, cond, List, [], ◌∷◌, ◌++◌, set, Option, Some, refl, sym, ap}
use Rattle.std.proofs.Common.{subst, ◌∙◌, arith, ⊎_elim, inl, inr}
use Rattle.std.proofs.lemmas.Bool.{eq-eqb, ne_eqb}
use Rattle.std.proofs.lemmas.List.{append-nil}
use mathlib.Core.Option.{some, none, some-injective, some-ne-none}
use mathlib.Core.Option as maybe
use lib.ListN.{get_elem?}
use prog.Atomic.{either}
use native.Mathlib.Decide.{ℕ_discrete}
use Rattle.atomic_table.specs.Table.{Me, Act, keeps, takes, gives, Valid, homes_after, carried_after, put_back, Allows, Splits, Joins, opening}
use Rattle.atomic_table.proofs.Lists.{at_set, at_snoc, set_again}
use Rattle.plinq_source.specs.Trace.{Trace}
use Rattle.plinq_keyed.specs.declared.record.Record.{Record}
use Rattle.plinq_keyed.specs.History.{IsLegalHistory, tickets_below}
use Rattle.plinq_ticket.specs.declared.phase.Phase.{Phase}
use Rattle.plinq_ticket.specs.declared.phase.Phase.TheVariants.{Idle, Waiting, Inside, Joined}
use Rattle.plinq_ticket.specs.declared.standing.Standing.{Standing}
use Rattle.plinq_ticket.specs.declared.view.View.{View}
use Rattle.plinq_ticket.specs.Weights.{total}
use Rattle.plinq_ticket.specs.Turns.{tickets_end, is_inside, InTurn, with_drawn, with_ticket, called_phase, with_served, idle_standing}
use Rattle.plinq_ticket.specs.TwoWords.{OfTwoWords}
use Rattle.plinq_ticket.specs.Shares.{AddsAtMostOne, added_records}
use Rattle.plinq_ticket.specs.Lawful.{standing_of, origin_in, history_of, inside_of, Knows, Stands, Lawful, first_view}
use Rattle.plinq_ticket.specs.inner.Steps.{standing_so, cut_view, together_with, spent_view, inside_with, left_with, slot_records, SeesNext, Draws}
use Rattle.plinq_ticket.specs.inner.Steps.{Goes, SeesServing, Returns, Leaves}
use Rattle.plinq_ticket.proofs.Weights.{total-set, total-at, total-append}
use Rattle.plinq_ticket.proofs.Turns.{step-see_next, step-draw, step-see_serving, step-leave, step-join, in_turn-made, in_turn-new, inside-none}
use Rattle.plinq_ticket.proofs.Turns.{inside-served, not_inside-beside}
use Rattle.plinq_ticket.proofs.Ordered.{added_records-append}
use Rattle.plinq_ticket.proofs.Allowed.{allows-next, allows-serving}
use Rattle.plinq_ticket.proofs.Histories.{rises-legal, tickets_below-more, tickets_below-next, history_of-set, history_of-add, history_of-more}
use Rattle.plinq_ticket.proofs.Histories.{history_of-join, history_of-weights, total-history_of}

-- what is there, with what was added, is all of it
added_records-whole : (old new : List Record) (k : ℕ) → AddsAtMostOne k old new → new ≡ old ++ added_records old new
added_records-whole old new k (inl e) =
    let none : added_records old new ≡ [] = ap (added_records old) (e ∙ sym (append-nil old)) ∙ added_records-append old [] in e
    ∙ sym (append-nil old) ∙ ap (λ x. old ++ x) (sym none)
added_records-whole old new k (inr one) =
    let rest : added_records old new ≡ one.0 ∷ [] = ap (added_records old) one.1 ∙ added_records-append old (one.0 ∷ []) in one.1
    ∙ ap (λ x. old ++ x) (sym rest)

-- what was added has the ticket k, so all are below the next one
below-added : (k : ℕ) (old new : List Record) → tickets_below k old ≡ true → AddsAtMostOne k old new → tickets_below (k + 1) new ≡ true
below-added k old new below (inl e) = ap (tickets_below (k + 1)) e ∙ tickets_below-more k (k + 1) old (omega arith) below
below-added k old new below (inr one) = ap (tickets_below (k + 1)) one.1 ∙ tickets_below-next k old one.0 below one.2

module _ {T : Type 0} (t : Trace T) where
  -- what a pass knows doesn't hang on where it stands
  knows-standing : (h : List Record) (a : Standing) (v : View T) (p : Phase) → Knows t h v p → Knows t h (standing_so a v) p
  knows-standing h a v Idle k = k
  knows-standing h a v (Waiting n) k = k
  knows-standing h a v (Inside n) k = k
  knows-standing h a v Joined k = k

  -- outside, what a pass knows doesn't hang on the history
  knows-outside : (h h' : List Record) (v : View T) (p : Phase) → is_inside p ≡ 0 → Knows t h v p → Knows t h' v p
  knows-outside h h' v Idle e k = k
  knows-outside h h' v (Waiting n) e k = k
  knows-outside h h' v (Inside n) e k = absurd (omega arith)
  knows-outside h h' v Joined e k = k

  module _ {V : Type 0} (origin : V → Trace T) (history : V → List Record) where
    -- while a pass is inside, the value is out
    away : (h : List Record) (homes : List (maybe.Option (Option V))) (inside : ℕ) → Stands origin history t h homes inside → 1 ≤ inside
        → (homes ≡ none ∷ []) × (inside ≡ 1)
    away h homes inside (inl home) some_in = let none_in = home.4 in absurd (omega arith)
    away h homes inside (inr out) some_in = out

    -- a pass moves on, and no record, value or slot does
    lawful-moved : (next next' serving : ℕ) (homes : List (maybe.Option (Option V))) (views : List (View T)) (i : ℕ) (v w : View T)
        → Lawful origin history t next serving homes views
        → get_elem? views i ≡ some v → InTurn standing_of next' serving (set views i w) → w.share ≡ v.share
        → is_inside w.standing.phase ≡ is_inside v.standing.phase
        → Knows t (history_of views) w w.standing.phase → Lawful origin history t next' serving homes (set views i w)
    lawful-moved next next' serving homes views i v w kept at turns share place own =
        let same : history_of (set views i w) ≡ history_of views = history_of-set views i v w (rises-legal t (history_of views) kept.legal) at share in
        let moved = total-set (λ u. is_inside u.standing.phase) views i v w at in
        let count : inside_of (set views i w) ≡ inside_of views = omega arith in
        let P : List Record × ℕ → Type 0 = λ x. Stands origin history t x.0 homes x.1 in
        let back : (u : View T) → Knows t (history_of views) u u.standing.phase → Knows t (history_of (set views i w)) u u.standing.phase =
        λ u. (let Q : List Record → Type 0 = λ h. Knows t h u u.standing.phase in subst Q (sym same)) in
        record {
          turns = turns;
          legal = subst (IsLegalHistory t) (sym same) kept.legal;
          below = ap (tickets_below serving) same ∙ kept.below;
          stands = subst P (λ k. (sym same k, sym count k)) kept.stands;
          knows = λ j u a. ⊎_elim
              (λ x. let Q : View T → Type 0 = λ y. Knows t (history_of (set views i w)) y y.standing.phase in subst Q x.1 (back w own))
              (λ x. back u (kept.knows j u x.1))
              (at_set views i j w u a);
        }

    module _ (slots id : ℕ) (me : Me (Option V) (View T)) where
      pub allows-see_next : Allows (OfTwoWords (Lawful origin history t)) slots id me 0 (λ n. n) (λ n b. SeesNext n me b)
      allows-see_next = allows-next (Lawful origin history t) slots id me (λ n. n) (λ n b. SeesNext n me b) (λ next serving homes views kept size at.
          let v = me.0 in
          let w : View T = standing_so (with_drawn next v.standing) v in
          let done = step-see_next standing_of next serving views id v w kept.turns at refl in
          let own = knows-standing (history_of views) w.standing v v.standing.phase (kept.knows id v at) in
          (w, keeps, tt, lawful-moved next next serving homes views id v w kept at done.0 refl refl own, record { saw = done.1; view = refl; slot = refl }))

      pub allows-draw : (k : ℕ) → k < tickets_end → me.0.standing.phase ≡ Idle
          → Allows (OfTwoWords (Lawful origin history t)) slots id me 0 (λ n. either (n == k) (k + 1) n) (λ n b. Draws k n me b)
      allows-draw k room idle =
          allows-next (Lawful origin history t) slots id me (λ n. either (n == k) (k + 1) n) (λ n b. Draws k n me b) (λ next serving homes views kept size at.
          let v = me.0 in
          let w : View T = standing_so (cond (next == k) (with_ticket k v.standing) (with_drawn next v.standing)) v in
          let done = step-draw standing_of k next serving views id v w kept.turns at room idle refl in
          let P : Phase → Type 0 = Knows t (history_of views) v in
          let knew = kept.knows id v at in
          let own = after (next == k) next (history_of views) (subst P idle knew) knew in (
            w,
            keeps,
            tt,
            lawful-moved next (either (next == k) (k + 1) next) serving homes views id v w kept at done.0 refl (place (next == k) next) own,
            record { saw = done.1; view = refl; slot = refl },
          ))
        where
          place : (b : Bool) (n : ℕ) → is_inside (cond b (with_ticket k me.0.standing) (with_drawn n me.0.standing)).phase ≡ is_inside me.0.standing.phase
          place true n = sym (ap is_inside idle)
          place false n = refl

          after : (b : Bool) (n : ℕ) (h : List Record) → origin_in me.0 ≡ t → Knows t h me.0 me.0.standing.phase
              → Knows t h (standing_so (cond b (with_ticket k me.0.standing) (with_drawn n me.0.standing)) me.0)
              (cond b (with_ticket k me.0.standing) (with_drawn n me.0.standing)).phase
          after true n h is knew = is
          after false n h is knew = knows-standing h (with_drawn n me.0.standing) me.0 me.0.standing.phase knew

      Owes : ℕ → ℕ → List (maybe.Option (Option V)) → List (View T) → Type 0
      Owes next serving homes views =
          (w : View T) × (a : Act (Option V)) × Valid homes me.1 a × Lawful origin history t next serving (homes_after homes me.1 a) (set views id w)
          × SeesServing origin history serving me (w, carried_after me.1 a)

      -- it is another's turn, or this pass has no ticket
      goes_on : (next serving : ℕ) (homes : List (maybe.Option (Option V))) (views : List (View T)) → Lawful origin history t next serving homes views
          → get_elem? views id ≡ some me.0
          → (p : Phase) → me.0.standing.phase ≡ p → called_phase serving p ≡ p
          → Goes origin history serving me (standing_so (with_served serving me.0.standing) me.0, me.1) p → Owes next serving homes views
      unfolding Owes
      goes_on next serving homes views kept at p is stays goes =
          let v = me.0 in
          let w : View T = standing_so (with_served serving v.standing) v in
          let done = step-see_serving standing_of next serving views id v w kept.turns at refl in
          let still : w.standing.phase ≡ v.standing.phase = ap (called_phase serving) is ∙ stays ∙ sym is in
          let knew : Knows t (history_of views) w v.standing.phase = knows-standing (history_of views) w.standing v v.standing.phase (kept.knows id v at) in
          let P : Phase → Type 0 = Knows t (history_of views) w in
          let G : Phase → Type 0 = Goes origin history serving me (w, me.1) in (
            w,
            keeps,
            tt,
            lawful-moved next next serving homes views id v w kept at done.0 refl (ap is_inside still) (subst P (sym still) knew),
            record { saw = done.1; view = refl; goes = subst G (sym is) goes },
          )

      -- it is this pass's turn: the slot is home, and becomes its own
      comes_inside : (next serving : ℕ) (homes : List (maybe.Option (Option V))) (views : List (View T))
          → Lawful origin history t next serving homes views → get_elem? views id ≡ some me.0
          → me.0.standing.phase ≡ Waiting serving → Stands origin history t (history_of views) homes (inside_of views) → Owes next serving homes views
      unfolding Owes
      comes_inside next serving homes views kept at waits (inl home) =
          let v = me.0 in
          let h = history_of views in
          let w : View T = inside_with h (with_served serving v.standing) v in
          let done = step-see_serving standing_of next serving views id v w kept.turns at refl in
          let inside : w.standing.phase ≡ Inside serving =
          ap (called_phase serving) waits
          ∙ ap (λ (b : Bool). let p : Phase = cond b (Inside serving) (Waiting serving) in p) (eq-eqb serving serving refl) in
          let P : Phase → Type 0 = Knows t h v in
          let is : origin_in v ≡ t = subst P waits (kept.knows id v at) in
          let same : history_of (set views id w) ≡ h = history_of-set views id v w (rises-legal t h kept.legal) at refl in
          let moved = total-set (λ u. is_inside u.standing.phase) views id v w at in
          let came : is_inside w.standing.phase ≡ 1 = ap is_inside inside in
          let was : is_inside v.standing.phase ≡ 0 = ap is_inside waits in
          let none_in : inside_of views ≡ 0 = home.4 in
          let one : inside_of (set views id w) ≡ 1 = omega arith in
          let back : (u : View T) → Knows t h u u.standing.phase → Knows t (history_of (set views id w)) u u.standing.phase =
          λ u. (let Q : List Record → Type 0 = λ x. Knows t x u u.standing.phase in subst Q (sym same)) in
          let own : Knows t h w w.standing.phase = (let Q : Phase → Type 0 = Knows t h w in subst Q (sym inside) (is, refl)) in
          let G : Phase → Type 0 = Goes origin history serving me (w, (0, Some home.0) ∷ me.1) in (
            w,
            takes 0 (Some home.0),
            ap (λ hs. get_elem? hs 0) home.1,
            record {
              turns = done.0;
              legal = subst (IsLegalHistory t) (sym same) kept.legal;
              below = ap (tickets_below serving) same ∙ kept.below;
              stands = inr (ap (λ hs. set hs 0 none) home.1, one);
              knows = λ j u a. ⊎_elim
                  (λ x. let Q : View T → Type 0 = λ y. Knows t (history_of (set views id w)) y y.standing.phase in subst Q x.1 (back w own))
                  (λ x. back u (kept.knows j u x.1))
                  (at_set views id j w u a);
            },
            record {
              saw = done.1;
              view = refl;
              goes = subst G (sym waits) (
                (λ e empty. record {
                  value = home.0;
                  phase = inside;
                  slot = ap (λ c. (0, Some home.0) ∷ c) empty;
                  origin_is = home.2 ∙ sym is;
                  history_is = home.3;
                  legal = (let Q : Trace T → Type 0 = λ o. IsLegalHistory o h in subst Q (sym is) kept.legal);
                  contains = λ f. (let own_share = total-at (λ u. total f u.share) views id v at in let whole = total-history_of f views in omega arith);
                  below = kept.below;
                }),
                (λ n. absurd (n refl)),
              );
            },
          )
      comes_inside next serving homes views kept at waits (inr out) =
          let none_in = inside-none standing_of next serving views id me.0 kept.turns at waits in
          let one = out.1 in
          absurd (omega arith)

      pub allows-see_serving : Allows (OfTwoWords (Lawful origin history t)) slots id me 1 (λ n. n) (λ n b. SeesServing origin history n me b)
      unfolding Owes
      allows-see_serving =
          allows-serving (Lawful origin history t) slots id me (λ n. n) (λ n b. SeesServing origin history n me b)
          (λ next serving homes views kept size at. by next serving homes views kept at me.0.standing.phase refl)
        where
          by : (next serving : ℕ) (homes : List (maybe.Option (Option V))) (views : List (View T)) → Lawful origin history t next serving homes views
              → get_elem? views id ≡ some me.0
              → (p : Phase) → me.0.standing.phase ≡ p → Owes next serving homes views
          by next serving homes views kept at Idle is = goes_on next serving homes views kept at Idle is refl refl
          by next serving homes views kept at (Inside n) is = goes_on next serving homes views kept at (Inside n) is refl refl
          by next serving homes views kept at Joined is = goes_on next serving homes views kept at Joined is refl refl
          by next serving homes views kept at (Waiting n) is =
              elim (ℕ_discrete n serving) [
                | yes e ↦ comes_inside next serving homes views kept at (is ∙ ap Waiting e) kept.stands
                | no ne ↦ goes_on next serving homes views kept at (Waiting n) is (ap (λ (b : Bool). let p : Phase = cond b (Inside n) (Waiting n) in p)
                    (ne_eqb n serving ne)) ((λ e empty. absurd (ne e)), (λ n. refl))
              ]

      pub allows-leave : (k : ℕ) → me.0.standing.phase ≡ Inside k → Returns origin history k me
          → Allows (OfTwoWords (Lawful origin history t)) slots id me 1 (λ _. k + 1) (λ _ b. Leaves history (k + 1) me b)
      allows-leave k inside returned =
          allows-serving (Lawful origin history t) slots id me (λ _. k + 1) (λ _ b. Leaves history (k + 1) me b) (λ next serving homes views kept size at.
          let v = me.0 in
          let h = history_of views in
          let value = returned.value in
          let new = added_records v.found (history value) in
          let w : View T = left_with (added_records v.found (slot_records history me.1)) (idle_standing (k + 1) v.standing) v in
          let done = step-leave standing_of k next serving views id v w kept.turns at inside refl in
          let served : serving ≡ k = inside-served standing_of next serving k views id v kept.turns at inside in
          let P : Phase → Type 0 = Knows t h v in
          let knew : (origin_in v ≡ t) × (v.found ≡ h) = subst P inside (kept.knows id v at) in
          let share : w.share ≡ v.share ++ new = ap (λ c. v.share ++ added_records v.found (slot_records history c)) returned.slot in
          let whole : history value ≡ h ++ new = added_records-whole v.found (history value) k returned.adds ∙ ap (λ x. x ++ new) knew.1 in
          let legal : IsLegalHistory t (history value) =
          (let Q : Trace T → Type 0 = λ o. IsLegalHistory o (history value) in subst Q (returned.origin_is ∙ knew.0) returned.legal) in
          let same : history_of (set views id w) ≡ history value =
          history_of-more views id v w new (history value) (rises-legal t (history value) legal) at share whole in
          let found_below : tickets_below k v.found ≡ true = ap (λ x. tickets_below k x) knew.1 ∙ ap (λ n. tickets_below n h) (sym served) ∙ kept.below in
          let moved = total-set (λ u. is_inside u.standing.phase) views id v w at in
          let own_inside : is_inside v.standing.phase ≡ 1 = ap is_inside inside in
          let some_in = total-at (λ u. is_inside u.standing.phase) views id v at in
          let out = away (history_of views) homes (inside_of views) kept.stands (omega arith) in
          let one : inside_of views ≡ 1 = out.1 in
          let none_in : inside_of (set views id w) ≡ 0 = omega arith in (
            w,
            gives,
            tt,
            record {
              turns = done.0;
              legal = subst (IsLegalHistory t) (sym same) legal;
              below = ap (tickets_below (k + 1)) same ∙ below-added k v.found (history value) found_below returned.adds;
              stands = inl (
                value,
                ap (λ c. put_back homes c) returned.slot ∙ ap (λ hs. set hs 0 (some (Some value))) out.0,
                returned.origin_is ∙ knew.0,
                sym same,
                none_in,
              );
              knows = λ j u a. ⊎_elim
                  (λ x. let Q : View T → Type 0 = λ y. Knows t (history_of (set views id w)) y y.standing.phase in subst Q x.1 knew.0)
                  (λ x.
                  let outside =
                  not_inside-beside standing_of next serving views id j v u kept.turns at x.1 x.0
                  (let first = (kept.turns.each_fits id v at).first in omega arith) in
                  knows-outside h (history_of (set views id w)) u u.standing.phase outside (kept.knows j u x.1))
                  (at_set views id j w u a);
            },
            record { view = refl; slot = refl },
          ))

    -- one pass becomes two
    pub splits : (id : ℕ) (v : View T) → v.standing.phase ≡ Idle → Splits (OfTwoWords (Lawful origin history t)) id v v (cut_view v)
    splits id v idle s kept at =
        let views = s.views in
        let law = kept.fact in
        let w = cut_view v in
        let fits = law.turns.each_fits id v at in
        let same : history_of (views ++ w ∷ []) ≡ history_of views = history_of-add views w (rises-legal t (history_of views) law.legal) refl in
        let more = total-append (λ u. is_inside u.standing.phase) views (w ∷ []) in
        let outside : is_inside v.standing.phase ≡ 0 = ap is_inside idle in
        let count : inside_of (views ++ w ∷ []) ≡ inside_of views = omega arith in
        let P : List Record × ℕ → Type 0 = λ x. Stands origin history t x.0 s.homes x.1 in
        let I : Phase → Type 0 = Knows t (history_of (views ++ w ∷ [])) w in
        let J : Phase → Type 0 = Knows t (history_of views) v in
        let own : Knows t (history_of (views ++ w ∷ [])) w w.standing.phase = subst I (sym idle) (subst J idle (law.knows id v at)) in
        let grown : Lawful origin history t kept.next kept.serving s.homes (views ++ w ∷ []) = record {
          turns = in_turn-made standing_of kept.next kept.serving views w law.turns idle fits;
          legal = subst (IsLegalHistory t) (sym same) law.legal;
          below = ap (tickets_below kept.serving) same ∙ law.below;
          stands = subst P (λ k. (sym same k, sym count k)) law.stands;
          knows = λ j u a. ⊎_elim
              (λ b. let Q : List Record → Type 0 = λ x. Knows t x u u.standing.phase in subst Q (sym same) (law.knows j u b))
              (λ e. let Q : View T → Type 0 = λ y. Knows t (history_of (views ++ w ∷ [])) y y.standing.phase in subst Q e own)
              (at_snoc views w u j a);
        } in
        record {
          next = kept.next;
          serving = kept.serving;
          words = kept.words;
          fact =
              let L : List (View T)
              → Type 0 = λ vs. Lawful origin history t kept.next kept.serving s.homes (vs ++ w ∷ []) in subst L (sym (set_again views id v at)) grown;
        }

    -- two passes become one
    pub joins : (id : ℕ) (v : View T) (other : ℕ) (w : View T) → v.standing.phase ≡ Idle → w.standing.phase ≡ Idle
        → Joins (OfTwoWords (Lawful origin history t)) id v other w (together_with v w) spent_view
    joins id v other w idle idle' s kept at apart at' =
        let views = s.views in
        let law = kept.fact in
        let both = together_with v w in
        let views' = set (set views id both) other spent_view in
        let same : history_of views' ≡ history_of views =
        history_of-join views id other v w both spent_view (rises-legal t (history_of views) law.legal) at at' refl refl in
        let once = total-set (λ u. is_inside u.standing.phase) views id v both at in
        let twice = total-set (λ u. is_inside u.standing.phase) (set views id both) other w spent_view at' in
        let outside : is_inside v.standing.phase ≡ 0 = ap is_inside idle in
        let outside' : is_inside w.standing.phase ≡ 0 = ap is_inside idle' in
        let count : inside_of views' ≡ inside_of views = omega arith in
        let P : List Record × ℕ → Type 0 = λ x. Stands origin history t x.0 s.homes x.1 in
        let J : Phase → Type 0 = Knows t (history_of views) v in
        let is : origin_in v ≡ t = subst J idle (law.knows id v at) in
        record {
          next = kept.next;
          serving = kept.serving;
          words = kept.words;
          fact = record {
            turns = step-join standing_of kept.next kept.serving views id other v w both spent_view law.turns at apart at' idle idle' refl refl;
            legal = subst (IsLegalHistory t) (sym same) law.legal;
            below = ap (tickets_below kept.serving) same ∙ law.below;
            stands = subst P (λ k. (sym same k, sym count k)) law.stands;
            knows = λ j u a. ⊎_elim
                (λ x. let Q : View T → Type 0 = λ y. Knows t (history_of views') y y.standing.phase in subst Q x.1 refl)
                (λ x. ⊎_elim
                (λ y. let Q : View T → Type 0 = λ z. Knows t (history_of views') z z.standing.phase in subst Q y.1 is)
                (λ y. let Q : List Record → Type 0 = λ z. Knows t z u u.standing.phase in subst Q (sym same) (law.knows j u y.1))
                (at_set views id j both u x.1))
                (at_set (set views id both) other j spent_view u a);
          };
        }

  -- a new lock
  pub opens : {V : Type 0} (origin : V → Trace T) (history : V → List Record) (value : V) (k : ℕ) → origin value ≡ t
      → IsLegalHistory t (history value) → tickets_below k (history value) ≡ true → k ≤ tickets_end
      → OfTwoWords (Lawful origin history t) (opening (k ∷ k ∷ []) (Some value ∷ []) (first_view t (history value)))
  opens {V} origin history value k is legal below within =
      let v : View T = first_view t (history value) in
      let same : history_of (v ∷ []) ≡ history value = history_of-weights (v ∷ []) (history value) (rises-legal t (history value) legal) (λ f. omega arith) in
      record {
        next = k;
        serving = k;
        words = refl;
        fact = record {
          turns = in_turn-new standing_of k v within refl;
          legal = subst (IsLegalHistory t) (sym same) legal;
          below = ap (tickets_below k) same ∙ below;
          stands = inl (value, refl, is, sym same, refl);
          knows = λ j u a. each j u a;
        };
      }
    where
      each : (j : ℕ) (u : View T) → get_elem? (first_view t (history value) ∷ []) j ≡ some u
          → Knows t (history_of (first_view t (history value) ∷ [])) u u.standing.phase
      each zero u a =
          let Q : View T → Type 0 = λ y. Knows t (history_of (first_view t (history value) ∷ [])) y y.standing.phase in subst Q (some-injective _ u a) refl
      each (suc j) u a = absurd (some-ne-none u (sym a))
