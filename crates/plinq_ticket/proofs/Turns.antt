-- The steps of a pass keep the tickets in turn, wherever the standing lies in a view.
use Rattle.std.proofs.Common.{◌≡◌, ◌≢◌, ℕ, zero, suc, ◌+◌, ◌<◌, ◌≤◌, ◌==◌, Bool, true, false, List, [], ◌∷◌, ◌++◌, set, cond, sym, refl, ap, subst}
use Rattle.std.proofs.Common.{◌∙◌, arith, ⊎_elim}
use Rattle.std.proofs.lemmas.Bool.{eqb-true}
use prog.Atomic.{either}
use Rattle.std.proofs.lemmas.Bool.Decides.{nat_tests}
use mathlib.Core.Option.{some, some-injective, some-ne-none}
use lib.ListN.{get_elem?}
use Rattle.atomic_table.proofs.Lists.{at_set, at_snoc}
use Rattle.plinq_ticket.specs.declared.phase.Phase.{Phase}
use Rattle.plinq_ticket.specs.declared.phase.Phase.TheVariants.{Idle, Waiting, Inside, Joined}
use Rattle.plinq_ticket.specs.declared.standing.Standing.{Standing}
use Rattle.plinq_ticket.specs.Weights.{total}
use Rattle.plinq_ticket.specs.Turns.{tickets_end, has_ticket, is_inside, is_open, Fits, InTurn, newcomer, joined_standing, with_drawn, with_ticket}
use Rattle.plinq_ticket.specs.Turns.{called_phase, with_served, idle_standing, together, NotPassed, SawNext, SawDrawn, SawServing, SawLeft}
use Rattle.plinq_ticket.proofs.Weights.{total-append, total-set, total-at, total-two, total-most, total-less}

-- one more ticket is open
is_open-next : (serving next k : ℕ) → serving ≤ next → is_open serving (next + 1) k ≡ is_open serving next k + cond (next == k) 1 0
is_open-next serving next k order = grind (arith, nat_tests)

-- one ticket less is open
is_open-serving : (serving next k : ℕ) → serving < next → is_open serving next k ≡ is_open (serving + 1) next k + cond (serving == k) 1 0
is_open-serving serving next k some_open = grind (arith, nat_tests)

-- a number that is open is at least the one served, and below the next
pub is_open-one : (serving next k : ℕ) → 1 ≤ is_open serving next k → (serving ≤ k) × (k < next)
is_open-one serving next k h = (grind (arith, nat_tests), grind (arith, nat_tests))

is_open-most : (serving next k : ℕ) → is_open serving next k ≤ 1
is_open-most serving next k = grind (arith, nat_tests)

own_ticket : (k : ℕ) → has_ticket k (Inside k) ≡ 1
own_ticket k = grind (arith, nat_tests)

inside_first : (serving t : ℕ) → is_inside (Inside t) ≤ has_ticket serving (Inside t) → serving ≡ t
inside_first serving t h = grind (arith, nat_tests)

has_ticket-called_phase : (n k : ℕ) (p : Phase) → has_ticket k (called_phase n p) ≡ has_ticket k p
has_ticket-called_phase n k Idle = refl
has_ticket-called_phase n k (Waiting t) =
    elim (t == n) as (λ b. has_ticket k (cond b (Inside t) (Waiting t)) ≡ has_ticket k (Waiting t)) [ true ↦ refl | false ↦ refl ]
has_ticket-called_phase n k (Inside t) = refl
has_ticket-called_phase n k Joined = refl

called_phase-first : (n : ℕ) (p : Phase) → is_inside p ≤ has_ticket n p → is_inside (called_phase n p) ≤ has_ticket n (called_phase n p)
called_phase-first n Idle h = h
called_phase-first n (Waiting t) h = by (t == n) refl
  where
    by : (b : Bool) → (t == n) ≡ b → is_inside (cond b (Inside t) (Waiting t)) ≤ has_ticket n (cond b (Inside t) (Waiting t))
    by true e = let one : has_ticket n (Inside t) ≡ 1 = ap (λ (c : Bool). let k : ℕ = cond c 1 0 in k) e in omega (arith, one)
    by false e = omega arith
called_phase-first n (Inside t) h = h
called_phase-first n Joined h = h

module _ {V : Type 0} (standing : V → Standing) where
  each-set : (P : V → Type 0) (views : List V) (i : ℕ) (w : V) → ((j : ℕ) (u : V) → j ≢ i → get_elem? views j ≡ some u → P u) → P w → (j : ℕ) (u : V)
      → get_elem? (set views i w) j ≡ some u → P u
  each-set P views i w others own j u at = ⊎_elim (λ h. subst P h.1 own) (λ h. others j u h.0 h.1) (at_set views i j w u at)

  -- the pass keeps its ticket
  pub in_turn-same : (next serving : ℕ) (views : List V) (i : ℕ) (v w : V) → InTurn standing next serving views → get_elem? views i ≡ some v
      → ((k : ℕ) → has_ticket k (standing w).phase ≡ has_ticket k (standing v).phase) → Fits next serving (standing w)
      → InTurn standing next serving (set views i w)
  in_turn-same next serving views i v w turns at same fits = record {
    order = turns.order;
    within = turns.within;
    each_once =
        λ k. let moved = total-set (λ u. has_ticket k (standing u).phase) views i v w at in let e = same k in let was = turns.each_once k in omega arith;
    each_fits = each-set (λ u. Fits next serving (standing u)) views i w (λ j u n a. turns.each_fits j u a) fits;
  }

  -- the pass draws the next ticket
  pub in_turn-drawn : (next serving : ℕ) (views : List V) (i : ℕ) (v w : V) → InTurn standing next serving views → get_elem? views i ≡ some v
      → next < tickets_end → (standing v).phase ≡ Idle → (standing w).phase ≡ Waiting next → Fits (next + 1) serving (standing w)
      → InTurn standing (next + 1) serving (set views i w)
  in_turn-drawn next serving views i v w turns at room idle waits fits = record {
    order = let h = turns.order in omega arith;
    within = omega arith;
    each_once = λ k.
        let moved = total-set (λ u. has_ticket k (standing u).phase) views i v w at in
        let before : has_ticket k (standing v).phase ≡ 0 = ap (has_ticket k) idle in
        let after : has_ticket k (standing w).phase ≡ cond (next == k) 1 0 = ap (has_ticket k) waits in
        let was = turns.each_once k in
        let more = is_open-next serving next k turns.order in
        omega arith;
    each_fits = each-set (λ u. Fits (next + 1) serving (standing u)) views i w
        (λ j u n a. let f = turns.each_fits j u a in record { drawn = let h = f.drawn in omega arith; served = f.served; first = f.first }) fits;
  }

  -- a ticket that a pass has is open
  pub in_turn-open : (next serving : ℕ) (views : List V) (i : ℕ) (v : V) (t : ℕ) → InTurn standing next serving views → get_elem? views i ≡ some v
      → 1 ≤ has_ticket t (standing v).phase → (serving ≤ t) × (t < next)
  in_turn-open next serving views i v t turns at has =
      let own = total-at (λ u. has_ticket t (standing u).phase) views i v at in
      let once = turns.each_once t in
      let h : 1 ≤ is_open serving next t = omega arith in
      is_open-one serving next t h

  -- beside a pass with the ticket that is served no one is inside
  pub not_inside-beside : (next serving : ℕ) (views : List V) (i j : ℕ) (v u : V) → InTurn standing next serving views → get_elem? views i ≡ some v
      → get_elem? views j ≡ some u
      → j ≢ i → 1 ≤ has_ticket serving (standing v).phase → is_inside (standing u).phase ≡ 0
  not_inside-beside next serving views i j v u turns at at' other has =
      let both = total-two (λ x. has_ticket serving (standing x).phase) views i j v u other at at' in
      let once = turns.each_once serving in
      let most = is_open-most serving next serving in
      let first = (turns.each_fits j u at').first in
      omega arith

  -- while the one whose ticket is served waits, no one is inside
  pub inside-none : (next serving : ℕ) (views : List V) (i : ℕ) (v : V) → InTurn standing next serving views → get_elem? views i ≡ some v
      → (standing v).phase ≡ Waiting serving → total (λ u. is_inside (standing u).phase) views ≡ 0
  inside-none next serving views i v turns at waits =
      let less =
      total-less (λ u. is_inside (standing u).phase) (λ u. has_ticket serving (standing u).phase) views i v (λ j u a. (turns.each_fits j u a).first) at in
      let has : has_ticket serving (standing v).phase ≡ 1 = ap (has_ticket serving) waits ∙ own_ticket serving in
      let outside : is_inside (standing v).phase ≡ 0 = ap is_inside waits in
      let once = turns.each_once serving in
      let most = is_open-most serving next serving in
      omega arith

  -- a pass that is inside has a ticket that is open
  pub inside-open : (next serving : ℕ) (views : List V) → InTurn standing next serving views → 1 ≤ total (λ u. is_inside (standing u).phase) views
      → serving < next
  inside-open next serving views turns some_in =
      let most = total-most (λ u. is_inside (standing u).phase) (λ u. has_ticket serving (standing u).phase) views (λ j u a. (turns.each_fits j u a).first) in
      let once = turns.each_once serving in
      let h : 1 ≤ is_open serving next serving = omega arith in
      (is_open-one serving next serving h).1

  -- the ticket of the pass that is inside is the one that is served
  pub inside-served : (next serving t : ℕ) (views : List V) (i : ℕ) (v : V) → InTurn standing next serving views → get_elem? views i ≡ some v
      → (standing v).phase ≡ Inside t → serving ≡ t
  inside-served next serving t views i v turns at inside =
      let P : Phase → Type 0 = λ q. is_inside q ≤ has_ticket serving q in
      inside_first serving t (subst P inside (turns.each_fits i v at).first)

  -- the pass leaves, and the next ticket is served
  pub in_turn-left : (next serving : ℕ) (views : List V) (i : ℕ) (v w : V) → InTurn standing next serving views → get_elem? views i ≡ some v
      → (standing v).phase ≡ Inside serving → (standing w).phase ≡ Idle → Fits next (serving + 1) (standing w)
      → InTurn standing next (serving + 1) (set views i w)
  in_turn-left next serving views i v w turns at inside idle fits =
      let has : has_ticket serving (standing v).phase ≡ 1 = ap (has_ticket serving) inside ∙ own_ticket serving in
      let open' = in_turn-open next serving views i v serving turns at (omega arith) in
      let some_open : serving < next = open'.1 in
      record {
        order = omega arith;
        within = turns.within;
        each_once = λ k.
            let moved = total-set (λ u. has_ticket k (standing u).phase) views i v w at in
            let before : has_ticket k (standing v).phase ≡ cond (serving == k) 1 0 = ap (has_ticket k) inside in
            let after : has_ticket k (standing w).phase ≡ 0 = ap (has_ticket k) idle in
            let was = turns.each_once k in
            let less = is_open-serving serving next k some_open in
            omega arith;
        each_fits = each-set (λ u. Fits next (serving + 1) (standing u)) views i w
            (λ j u n a.
            let f = turns.each_fits j u a in
            let none = not_inside-beside next serving views i j v u turns at a n (omega arith) in
            record { drawn = f.drawn; served = let h = f.served in omega arith; first = omega arith }) fits;
      }

  -- a pass is made
  pub in_turn-made : (next serving : ℕ) (views : List V) (w : V) → InTurn standing next serving views → (standing w).phase ≡ Idle
      → Fits next serving (standing w)
      → InTurn standing next serving (views ++ w ∷ [])
  in_turn-made next serving views w turns idle fits = record {
    order = turns.order;
    within = turns.within;
    each_once = λ k.
        let more = total-append (λ u. has_ticket k (standing u).phase) views (w ∷ []) in
        let none : has_ticket k (standing w).phase ≡ 0 = ap (has_ticket k) idle in
        let was = turns.each_once k in
        omega arith;
    each_fits =
        λ j u at. ⊎_elim (turns.each_fits j u) (λ e. let P : V → Type 0 = λ x. Fits next serving (standing x) in subst P e fits) (at_snoc views w u j at);
  }

  same_fits : (next serving : ℕ) (w : V) (b : Standing) → standing w ≡ b → Fits next serving b → Fits next serving (standing w)
  same_fits next serving w b e fits = subst (Fits next serving) (sym e) fits

  pub step-see_next : (next serving : ℕ) (views : List V) (i : ℕ) (v w : V) → InTurn standing next serving views → get_elem? views i ≡ some v
      → standing w ≡ with_drawn next (standing v) → InTurn standing next serving (set views i w) × SawNext next (standing v) (standing w)
  step-see_next next serving views i v w turns at e =
      let f = turns.each_fits i v at in (
        in_turn-same next serving views i v w turns at (λ k. ap (λ a. has_ticket k a.phase) e)
            (same_fits next serving w _ e (record { drawn = omega arith; served = f.served; first = f.first })),
        record { risen = f.drawn; within = turns.within; after = e },
      )

  pub step-draw : (t next serving : ℕ) (views : List V) (i : ℕ) (v w : V) → InTurn standing next serving views → get_elem? views i ≡ some v
      → t < tickets_end → (standing v).phase ≡ Idle → standing w ≡ cond (next == t) (with_ticket t (standing v)) (with_drawn next (standing v))
      → InTurn standing (either (next == t) (t + 1) next) serving (set views i w) × SawDrawn t next (standing v) (standing w)
  step-draw t next serving views i v w turns at room idle e = (
    by (next == t) refl e,
    record {
      risen = (turns.each_fits i v at).drawn;
      order = let f = (turns.each_fits i v at).served in let o = turns.order in omega arith;
      within = turns.within;
      after = e;
    },
  )
    where
      by : (b : Bool) → (next == t) ≡ b → standing w ≡ cond b (with_ticket t (standing v)) (with_drawn next (standing v))
          → InTurn standing (either b (t + 1) next) serving (set views i w)
      by true hit e =
          let same : next ≡ t = eqb-true next t hit in
          let f = turns.each_fits i v at in
          let waits : (standing w).phase ≡ Waiting next = ap (λ a. a.phase) e ∙ ap Waiting (sym same) in
          let fits : Fits (next + 1) serving (standing w) =
          same_fits (next + 1) serving w _ e (record { drawn = omega arith; served = f.served; first = omega arith }) in
          let P : ℕ → Type 0 = λ n. InTurn standing (n + 1) serving (set views i w) in
          subst P same (in_turn-drawn next serving views i v w turns at (omega arith) idle waits fits)
      by false miss e = (step-see_next next serving views i v w turns at e).0

  pub step-see_serving : (next serving : ℕ) (views : List V) (i : ℕ) (v w : V) → InTurn standing next serving views → get_elem? views i ≡ some v
      → standing w ≡ with_served serving (standing v) → InTurn standing next serving (set views i w) × SawServing serving (standing v) (standing w)
  step-see_serving next serving views i v w turns at e =
      let f = turns.each_fits i v at in (
        in_turn-same next serving views i v w turns at (λ k. ap (λ a. has_ticket k a.phase) e ∙ has_ticket-called_phase serving k (standing v).phase)
            (same_fits next serving w _ e (record { drawn = f.drawn; served = omega arith; first = called_phase-first serving (standing v).phase f.first })),
        record {
          risen = f.served;
          within = let o = turns.order in let h = turns.within in omega arith;
          turn = not_passed (standing v).phase refl;
          after = e;
        },
      )
    where
      not_passed : (p : Phase) → (standing v).phase ≡ p → NotPassed serving p
      not_passed Idle is = tt
      not_passed (Waiting t) is =
          (in_turn-open next serving views i v t turns at (let has : has_ticket t (standing v).phase ≡ 1 = ap (has_ticket t) is
          ∙ own_ticket t in omega arith)).0
      not_passed (Inside t) is =
          inside_first serving t (let P : Phase → Type 0 = λ q. is_inside q ≤ has_ticket serving q in subst P is (turns.each_fits i v at).first)
      not_passed Joined is = tt

  pub step-leave : (t next serving : ℕ) (views : List V) (i : ℕ) (v w : V) → InTurn standing next serving views → get_elem? views i ≡ some v
      → (standing v).phase ≡ Inside t → standing w ≡ idle_standing (t + 1) (standing v)
      → InTurn standing next (t + 1) (set views i w) × SawLeft (t + 1) (standing v) (standing w)
  step-leave t next serving views i v w turns at inside e =
      let f = turns.each_fits i v at in
      let same = inside-served next serving t views i v turns at inside in
      let fits : Fits next (serving + 1) (standing w) =
      same_fits next (serving + 1) w _ e (record { drawn = f.drawn; served = omega arith; first = omega arith }) in
      let Q : ℕ → Type 0 = λ n. InTurn standing next (n + 1) (set views i w) in (
        subst Q same (in_turn-left next serving views i v w turns at (inside ∙ ap Inside (sym same)) (ap (λ a. a.phase) e) fits),
        record { after = e },
      )

  pub step-join : (next serving : ℕ) (views : List V) (i j : ℕ) (v w both spent : V) → InTurn standing next serving views → get_elem? views i ≡ some v
      → j ≢ i → get_elem? (set views i both) j ≡ some w
      → (standing v).phase ≡ Idle → (standing w).phase ≡ Idle → standing both ≡ together (standing v) (standing w) → standing spent ≡ joined_standing
      → InTurn standing next serving (set (set views i both) j spent)
  step-join next serving views i j v w both spent turns at other at' idle idle' e e' =
      let f = turns.each_fits i v at in
      let there : get_elem? views j ≡ some w = ⊎_elim (λ h. absurd (other h.0)) (λ h. h.1) (at_set views i j both w at') in
      let f' = turns.each_fits j w there in
      let fits : Fits next serving (standing both) =
      same_fits next serving both _ e (record {
        drawn = let a = f.drawn in let b = f'.drawn in omega arith;
        served = let a = f.served in let
            b = f'.served in omega arith;
        first = omega arith;
      }) in
      let once = in_turn-same next serving views i v both turns at (λ k. ap (λ a. has_ticket k a.phase) e ∙ sym (ap (has_ticket k) idle)) fits in
      let none : Fits next serving (standing spent) =
      same_fits next serving spent _ e' (record { drawn = omega arith; served = omega arith; first = omega arith }) in
      in_turn-same next serving (set views i both) j w spent once at' (λ k. ap (λ a. has_ticket k a.phase) e' ∙ sym (ap (has_ticket k) idle')) none

  -- no ticket is open where as many were served as drawn
  is_open-none : (t k : ℕ) → is_open t t k ≡ 0
  is_open-none t k = grind (arith, nat_tests)

  -- a new lock, all of whose tickets below t are gone
  pub in_turn-new : (t : ℕ) (v : V) → t ≤ tickets_end → standing v ≡ newcomer → InTurn standing t t (v ∷ [])
  in_turn-new t v within e = record {
    order = omega arith;
    within = within;
    each_once = λ k. let none = is_open-none t k in let idle : has_ticket k (standing v).phase ≡ 0 = ap (λ a. has_ticket k a.phase) e in omega arith;
    each_fits =
        each-one (λ u. Fits t t (standing u)) v (same_fits t t v newcomer e (record { drawn = omega arith; served = omega arith; first = omega arith }));
  }
    where
      each-one : (P : V → Type 0) (a : V) → P a → (i : ℕ) (u : V) → get_elem? (a ∷ []) i ≡ some u → P u
      each-one P a own zero u at = subst P (some-injective a u at) own
      each-one P a own (suc i) u at = absurd (some-ne-none u (sym at))
