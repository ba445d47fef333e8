-- What the history of some passes weighs, and when it is another's.
use Rattle.std.proofs.Common.{◌≡◌, ℕ, ◌+◌, ◌≤◌, ◌<◌, true, ltb, List, [], ◌∷◌, ◌++◌, map, set, refl, ap, ◌∙◌, arith}
use Rattle.std.proofs.lemmas.Bool.{and_parts, and_from, ltb-true, lt-ltb}
use Rattle.std.proofs.lemmas.List.Folds.{list_all-append}
use mathlib.Core.Option.{some}
use lib.ListN.{get_elem?}
use Rattle.plinq_source.specs.Trace.{Trace}
use Rattle.plinq_keyed.specs.declared.record.Record.{Record}
use Rattle.plinq_keyed.specs.Keys.{rises}
use Rattle.plinq_keyed.specs.History.{start, is_run, IsLegalHistory, tickets_below}
use Rattle.plinq_ticket.specs.declared.view.View.{View}
use Rattle.plinq_ticket.specs.Weights.{total}
use Rattle.plinq_ticket.specs.Lawful.{all_shares, history_of}
use Rattle.plinq_ticket.proofs.Weights.{total-append, total-set}
use Rattle.plinq_ticket.proofs.Ordered.{total-in_ticket_order, in_ticket_order-same}

pub rises-legal : {T : Type 0} (t : Trace T) (h : List Record) → IsLegalHistory t h → rises (map (λ r. r.ticket) h) ≡ true
rises-legal t h legal = (and_parts (is_run t start h) _ legal).1

pub tickets_below-more : (k n : ℕ) (h : List Record) → k ≤ n → tickets_below k h ≡ true → tickets_below n h ≡ true
tickets_below-more k n [] less e = refl
tickets_below-more k n (r ∷ h) less e =
    let p = and_parts (ltb r.ticket k) _ e in
    let a : r.ticket < k = ltb-true r.ticket k p.0 in
    and_from _ _ (lt-ltb r.ticket n (omega arith)) (tickets_below-more k n h less p.1)

pub tickets_below-next : (k : ℕ) (h : List Record) (r : Record) → tickets_below k h ≡ true → r.ticket ≡ k → tickets_below (k + 1) (h ++ r ∷ []) ≡ true
tickets_below-next k h r below e =
    let last : tickets_below (k + 1) (r ∷ []) ≡ true = and_from _ _ (lt-ltb r.ticket (k + 1) (omega arith)) refl in
    list_all-append (λ x. ltb x.ticket (k + 1)) h (r ∷ []) ∙ and_from _ _ (tickets_below-more k (k + 1) h (omega arith) below) last

module _ {T : Type 0} where
  total-all_shares : (f : Record → ℕ) (views : List (View T)) → total f (all_shares views) ≡ total (λ v. total f v.share) views
  total-all_shares f [] = refl
  total-all_shares f (v ∷ views) = let here = total-append f v.share (all_shares views) in let rest = total-all_shares f views in omega arith

  pub total-history_of : (f : Record → ℕ) (views : List (View T)) → total f (history_of views) ≡ total (λ v. total f v.share) views
  total-history_of f views = total-in_ticket_order f (all_shares views) ∙ total-all_shares f views

  -- passes whose shares weigh what records weigh whose tickets rise have these as their history
  pub history_of-weights : (views : List (View T)) (h : List Record) → rises (map (λ r. r.ticket) h) ≡ true
      → ((f : Record → ℕ) → total (λ v. total f v.share) views ≡ total f h) → history_of views ≡ h
  history_of-weights views h up same = in_ticket_order-same (all_shares views) h 0 up (λ f. total-all_shares f views ∙ same f)

  pub history_of-set : (views : List (View T)) (i : ℕ) (v w : View T) → rises (map (λ r. r.ticket) (history_of views)) ≡ true
      → get_elem? views i ≡ some v → w.share ≡ v.share → history_of (set views i w) ≡ history_of views
  history_of-set views i v w up at same = history_of-weights (set views i w) (history_of views) up (λ f.
      let moved = total-set (λ u. total f u.share) views i v w at in
      let e : total f w.share ≡ total f v.share = ap (total f) same in
      let was = total-history_of f views in
      omega arith)

  pub history_of-add : (views : List (View T)) (w : View T) → rises (map (λ r. r.ticket) (history_of views)) ≡ true → w.share ≡ []
      → history_of (views ++ w ∷ []) ≡ history_of views
  history_of-add views w up none = history_of-weights (views ++ w ∷ []) (history_of views) up (λ f.
      let more = total-append (λ u. total f u.share) views (w ∷ []) in
      let e : total f w.share ≡ 0 = ap (total f) none in
      let was = total-history_of f views in
      omega arith)

  -- a pass takes records in after the history
  pub history_of-more : (views : List (View T)) (i : ℕ) (v w : View T) (new h : List Record) → rises (map (λ r. r.ticket) h) ≡ true
      → get_elem? views i ≡ some v → w.share ≡ v.share ++ new
      → h ≡ history_of views ++ new → history_of (set views i w) ≡ h
  history_of-more views i v w new h up at share is = history_of-weights (set views i w) h up (λ f.
      let moved = total-set (λ u. total f u.share) views i v w at in
      let e : total f w.share ≡ total f v.share + total f new = ap (total f) share ∙ total-append f v.share new in
      let was = total-history_of f views in
      let whole : total f h ≡ total f (history_of views) + total f new = ap (total f) is ∙ total-append f (history_of views) new in
      omega arith)

  -- a pass takes another's records in
  pub history_of-join : (views : List (View T)) (i j : ℕ) (v w both spent : View T) → rises (map (λ r. r.ticket) (history_of views)) ≡ true
      → get_elem? views i ≡ some v → get_elem? (set views i both) j ≡ some w → both.share ≡ v.share ++ w.share → spent.share ≡ []
      → history_of (set (set views i both) j spent) ≡ history_of views
  history_of-join views i j v w both spent up at at' share none = history_of-weights (set (set views i both) j spent) (history_of views) up (λ f.
      let once = total-set (λ u. total f u.share) views i v both at in
      let twice = total-set (λ u. total f u.share) (set views i both) j w spent at' in
      let e : total f both.share ≡ total f v.share + total f w.share = ap (total f) share ∙ total-append f v.share w.share in
      let e' : total f spent.share ≡ 0 = ap (total f) none in
      let was = total-history_of f views in
      omega arith)
