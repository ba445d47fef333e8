-- What was delivered of items that were fed to operators.
use Rattle.plinq_merge.proofs.MergerWords.{◌≡◌, Bool, ℕ, ◌<◌, List, [], length, true, false, Option, Some, None, IfSome, Ok, refl, ◌+◌, ◌≤◌, ◌++◌, drop, Result}
use Rattle.plinq_merge.proofs.MergerWords.{Err, list_any, sym, ◌∙◌, ap, append_assoc, append-nil, take-append-drop, Ending, Trace, open_trace, followed_by}
use Rattle.plinq_merge.proofs.MergerWords.{ended_trace, trace_of, followed_by-followed_by, End, Meaning, Op, Stage, seq, some_takes_none, is_empty_take}
use Rattle.plinq_merge.proofs.MergerWords.{held_back, batches_from, full_batches, stages, seq-followed_by, stages-begun, some_takes_none-stages_of}
use Rattle.plinq_merge.proofs.MergerWords.{batches_from-open, Deliver, DeliveryFault, NoMemory, held_of, size_of, Leads, Delivers, GoesOn, Line}
use Rattle.plinq_merge.proofs.MergerWords.{can_deliver, batches-on, held-on, full_batches-append}
use Rattle.std.specs.Prelude.{OnOk, IfOk}
use Rattle.std.proofs.lemmas.Bool.{lt-ltb}
use Rattle.plinq_ops.proofs.{Fed.undecided-left, Fed.fed-none, Batched.full_batches-none, Batched.held_back-none}
use Rattle.plinq_merge.specs.inner.{Handing.HandsOn, OneThread.DeliversAnswer}
use Rattle.std.proofs.lemmas.Result.{IfOk-weaker}
use Rattle.plinq_ops.specs.Sequential.{first_items}
use Rattle.plinq_ops.specs.{Feeding.IsFed, Feeding.FeedsFrom, Pipeline.IsReached, Pipeline.PipelineView}
use Rattle.plinq_ops.proofs.Answered.{feeds-smaller, fed-on, fed-over, deciding-over, deciding-wider, deciding-singly, deciding-of_none, answer-of_none}
use Rattle.plinq_ops.proofs.Answered.{answer-fed}
use Rattle.plinq_ops.proofs.{Open.open-from_seq}
use Rattle.plinq_merge.proofs.Blocks.{full_batches-split, full_batches-short, full_batches-one}
use Rattle.plinq_merge.specs.inner.Sent.{cut-after, cut-before, up_to-more, up_to-leads, up_to-cut, delivers-at_err, delivers-as, delivers-after}
use Rattle.plinq_merge.specs.{Buffer.HasRoom, Deliveries.leads-filled, Delivering.KeepsPlan, Delivering.Made, Delivering.is_below, Sending.IsFilled}

-- where more may follow, it has not ended
pub fed-open : {T : Type 0} (ss ss' : List (Stage T)) (t : Trace T) (out : List T) → IsFed ss t [] out ss' None → t.ending ≡ None
fed-open ss ss' t out fed = open-from_seq ss t (sym fed.told)

module _ {T : Type 0} {ss ss' : List (Stage T)} {t : Trace T} {out : List T} where
  -- what a trace gives that was fed, before what comes after it
  pub fed-answer : {e : Option Ending} → IsFed ss t [] out ss' e → seq ss t ≡ trace_of out e
  fed-answer fed = ap (λ xs. trace_of xs (seq ss t).ending) (sym fed.items) ∙ ap (trace_of out) (sym fed.told)

  -- the operators go on after a trace that was fed
  fed-goes_on : IsFed ss t [] out ss' None → GoesOn ss t out None ss'
  fed-goes_on fed = record { answers = λ rest. rw (seq-followed_by ss t rest, fed-answer fed, fed.left refl) refl }

below-room : {T : Type 0} (size : Option ℕ) (held : List T) → IfSome size (λ n. length held < n) → is_below size held ≡ true
below-room None held room = refl
below-room (Some n) held room = lt-ltb (length held) n room

module _ {L T : Type 0} (meaning : L → Meaning T) where
  -- where no operator takes none, more may come
  pub can-undecided : (d : Deliver L T) → some_takes_none (stages meaning d.pipeline) ≡ false → HasRoom d.buffer → can_deliver meaning d ≡ true
  can-undecided d undecided room = rw (undecided, below-room (size_of d.buffer) (held_of d.buffer) room) refl

  -- so it may where the answer is open after items that were fed
  pub can-deliver : (d : Deliver L T) {ss : List (Stage T)} {t : Trace T} {out : List T} → IsFed ss t [] out (stages meaning d.pipeline) None
      → HasRoom d.buffer → can_deliver meaning d ≡ true
  can-deliver d fed room = can-undecided d (undecided-left _ _ _ [] _ fed) room

  -- a delivery that has taken nothing
  pub begun-undecided : (p : PipelineView L) (ops ops' : List (Op L)) (decided : Bool) → decided ≡ list_any is_empty_take ops → decided ≡ false
      → ops' ≡ ops → IsReached meaning ops' 0 p → some_takes_none (stages meaning p) ≡ false
  begun-undecided p ops ops' decided is undecided same reached =
      rw (stages-begun meaning ops' p reached, ← some_takes_none-stages_of meaning ops', same, ← is) undecided

-- all batches were delivered
pub made-fed : {K T : Type 0} {accepts : K → List T → K → Type 0} {refuses : K → List T → ℕ → K → Type 0} {l l' : Line T} {t : Trace T} {out : List T}
    {e : Option Ending} {s s' : K} → IsFed l.now t [] out l'.now e → KeepsPlan l l' → (e ≡ None → l'.held ≡ held_back l.size l.held out)
    → Leads accepts s (batches_from l.size l.held (trace_of out e)) s' → Made accepts refuses l s t (Ok e) l' s'
made-fed {l} {out} {e = None} fed plan held leads =
    let given = rw (batches_from-open l.size l.held out) at leads in
    record { plan = plan; gives = record { out = out; on = fed-goes_on fed; held = held refl; leads = given } }
made-fed {e = Some e} fed plan held leads = record { plan = plan; gives = rw (fed-answer fed) (refl, leads) }

-- what holds whatever the result is
pub on-any : {A E P : Type 0} (r : Result A E) → P → OnOk r P
on-any (Ok x) p = p
on-any (Err e) p = tt

-- all of the items were handed on
pub hands-all : {K T A : Type 0} {accepts : K → List T → K → Type 0} {refuses : K → List T → ℕ → K → Type 0} {size : Option ℕ} {held made held' : List T}
    {s s' : K} {r : Result A DeliveryFault}
    → IsFilled accepts refuses size held made s r held' s' → HandsOn accepts refuses size held made s r held' [] s'
hands-all {made} {r} filled = record { given = made; left = []; parts = sym (append-nil made); waits = on-any r refl; filled = filled }

-- these items were fed; of what came out, all but the last were given to the buffer, and their full batches sent
pub record HasSent {K T : Type 0} (accepts : K → List T → K → Type 0) (size : Option ℕ) (ss : List (Stage T)) (s : K) (t : Trace T) (held made : List T)
    (ss' : List (Stage T)) (s' : K) (ending : Option Ending) : Type 0 where
  pub out : List T
  pub fed : IsFed ss t [] (out ++ made) ss' ending
  pub keeps : held ≡ held_back size [] out
  pub leads : Leads accepts s (full_batches size [] out) s'

module _ {K T : Type 0} {accepts : K → List T → K → Type 0} {size : Option ℕ} {ss : List (Stage T)} {s : K} where
  pub sent-none : some_takes_none ss ≡ false → HasSent accepts size ss s (open_trace []) [] [] ss s None
  sent-none undecided = record { out = []; fed = fed-none ss [] undecided; keeps = refl; leads = refl }

  module _ {ss' ss'' : List (Stage T)} {t : Trace T} {n m : ℕ} {held made made' : List T} {s1 : K}
      (before : HasSent accepts size ss s (first_items n t) held made ss' s1 None) where
    -- what comes out stands after what was given to the buffer
    feeds-after : {e : Option Ending} → FeedsFrom ss' t n m made made' ss'' e → FeedsFrom ss' t n m (before.out ++ made) (before.out ++ made') ss'' e
    feeds-after next =
        let items = ap (λ ys. before.out ++ ys) next.fed.items ∙ sym (append_assoc before.out made _) in
        record { piece = next.piece; given = next.given; fed = record { items = items; told = next.fed.told; left = next.fed.left } }

    -- what the source gave next leaves the answer open
    pub sent-on : FeedsFrom ss' t n m made made' ss'' None → HasSent accepts size ss s (first_items m t) held made' ss'' s1 None
    sent-on next =
        record { out = before.out; fed = fed-on ss ss' ss'' t n m [] _ _ before.fed (feeds-after next); keeps = before.keeps; leads = before.leads }

    -- it decides the answer, and the rest was delivered or cut off
    pub sent-over : {refuses : K → List T → ℕ → K → Type 0} {most : ℕ} {s2 : K} {e : Ending} {r : Result Ending DeliveryFault} → m ≤ n + most
        → FeedsFrom ss' t n m made made' ss'' (Some e) → IfOk r (λ x. x ≡ e) → Delivers accepts refuses s1 (batches_from size held (ended_trace made' e)) r s2
        → DeliversAnswer accepts refuses size most ss t s m r s2
    sent-over {refuses} {most} {s2} {e} {r} block next same rest =
        let out : List T = before.out ++ made' in
        let last = feeds-after next in
        let fed : IsFed ss t [] out ss'' (Some e) = fed-over ss ss' ss'' t n m [] (before.out ++ made) out e before.fed last in
        let all = batches-on size [] before.out held (seq ss t) (ended_trace made' e) (sym (answer-fed ss ss'' t [] out e refl fed)) before.keeps in
        record {
          ending = IfOk-weaker r (λ x. x ≡ e) (λ x. (seq ss t).ending ≡ Some x) (λ x is. sym fed.told ∙ ap Some (sym is)) same;
          delivered = delivers-as accepts refuses s _ _ r s2 all (delivers-after accepts refuses s _ _ s1 r s2 before.leads rest);
          blocks = on-any r (deciding-over most ss ss' ss'' t n m [] (before.out ++ made) out e block before.fed last);
        }

  module _ {refuses : K → List T → ℕ → K → Type 0} where
    -- the first of the items that waited were handed on
    pub sent-handed : {A : Type 0} {t : Trace T} {held held' made left : List T} {ss' : List (Stage T)} {s1 s2 : K} {e : Option Ending} {x : A}
        → HandsOn accepts refuses size held made s1 (Ok x) held' left s2 → HasSent accepts size ss s t held made ss' s1 e
        → HasSent accepts size ss s t held' left ss' s2 e
    sent-handed {held} {held'} {made} {left} {s1} {s2} hands before =
        let given : List T = hands.given in
        let parts : made ≡ given ++ left = hands.parts ∙ ap (λ xs. given ++ xs) (sym hands.waits) in
        record {
          out = before.out ++ given;
          fed = rw (append_assoc before.out given left, ← parts) before.fed;
          keeps = held-on size [] held held' before.out given before.keeps hands.filled.held;
          leads = leads-filled accepts size [] held before.out given s s1 s2 before.keeps before.leads hands.filled.sent;
        }

    module _ {most : ℕ} {t : Trace T} {m : ℕ} {r : Result Ending DeliveryFault} where
      -- a delivery that was cut off in the midst
      pub sent-cut : {A : Type 0} (n : ℕ) {ss' : List (Stage T)} {held held' made made' : List T} {s1 s2 : K} {fault : DeliveryFault} → r ≡ Err fault
          → HandsOn {A = A} accepts refuses size held made s1 (Err fault) held' made' s2 → HasSent accepts size ss s (first_items n t) held made ss' s1 None
          → DeliversAnswer accepts refuses size most ss t s m r s2
      sent-cut n {ss'} {s1} {s2} {fault} is hands before =
          let out : List T = before.out ++ hands.given in
          let others : Trace T = trace_of (drop n t.items) t.ending in
          let more : Trace T = followed_by (open_trace hands.left) (seq ss' others) in
          let answer : seq ss t ≡ followed_by (open_trace out) more =
          ap (λ xs. seq ss (trace_of xs t.ending)) (sym (take-append-drop n t.items)) ∙ (fed-goes_on before.fed).answers others
          ∙ rw (hands.parts, ← append_assoc before.out hands.given hands.left) (followed_by-followed_by (open_trace out) (open_trace hands.left) _) in
          let all = batches-on size [] out (held_back size [] out) (seq ss t) more answer refl in
          let cut = cut-after accepts refuses s (full_batches size [] before.out) _ fault s1 s2 before.leads (rw before.keeps at hands.filled.sent) in
          rw is (record {
            ending = tt;
            delivered = rw (all, full_batches-append size [] before.out hands.given) (cut-before accepts refuses s _ _ fault s2 cut);
            blocks = tt;
          })

      -- memory ran out before an item came through
      pub sent-stopped : (n : ℕ) {ss' : List (Stage T)} {held made : List T} {s' : K} → r ≡ Err NoMemory
          → HasSent accepts size ss s (first_items n t) held made ss' s' None → DeliversAnswer accepts refuses size most ss t s m r s'
      sent-stopped n {held} {made} {s'} is before =
          let none : HandsOn {A = Ending} accepts refuses size held made s' (Err NoMemory) held made s' =
          record { given = []; left = made; parts = refl; waits = tt; filled = record { held = tt; sent = ([], [], refl, refl) } } in
          sent-cut n is none before

      -- or before anything was fed
      pub answer-stopped : r ≡ Err NoMemory → DeliversAnswer accepts refuses size most ss t s m r s
      answer-stopped is = rw is (record { ending = tt; delivered = ([], batches_from size [] (seq ss t), refl, refl); blocks = tt })

    -- a Take of none decides the answer
    pub answer-none : {most : ℕ} {t : Trace T} {m : ℕ} → some_takes_none ss ≡ true → m ≡ 0 → DeliversAnswer accepts refuses size most ss t s m (Ok End) s
    answer-none {most} {t} none fresh =
        let is = answer-of_none ss t none in
        record { ending = ap (λ u. u.ending) is; delivered = rw is refl; blocks = rw fresh (deciding-of_none most ss t none) }

-- ---- rulesets for the search

-- what breaks off and goes on
pub ruleset delivering = (delivers-at_err, cut-before, delivers-after)

-- where one batch has all items
pub ruleset buffering = (full_batches-none, held_back-none)

-- batch by batch
pub ruleset handing = (up_to-more, up_to-leads, up_to-cut, full_batches-split, full_batches-short, full_batches-one)

-- before anything was fed
pub ruleset stopping = (answer-stopped)

-- in the loop of items
pub ruleset sending_on = (sent-none, sent-on, sent-handed)

-- in the loop of blocks
pub ruleset in_blocks = (sent-none, feeds-smaller)

-- how many blocks decide
pub ruleset deciding = (deciding-wider, deciding-singly)
