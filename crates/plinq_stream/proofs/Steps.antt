-- Each step of a pass keeps the stream's rule.
use Rattle.std.proofs.Common.{◌≡◌, ◌≢◌, ℕ, ◌<◌, zero, suc, Bool, true, false, true≢false, List, [], ◌∷◌, ◌++◌, length, take, drop, set, All}
use Rattle.std.proofs.Common.{if◌then◌else◌, refl, sym, ap, ◌∙◌, subst, append_assoc, ◌⊎◌, inl, inr, ⊎_elim, arith}
use Rattle.std.proofs.lemmas.List.{append-nil}
use Rattle.std.proofs.lemmas.List.Elements.{All-nil, All-push, All-head, All-tail}
use Rattle.std.specs.Prelude.{Option, Some, None, IfNone, MatchOption}
use mathlib.Core.Option.{some, some-injective, some-ne-none}
use mathlib.Core.Logic.{dite}
use native.Mathlib.Decide.{ℕ_discrete}
use lib.ListN.{get_elem?}
use Rattle.crossbeam_queue.proofs.Lists.{at_set, set_else, at_longer, at_last}
use Rattle.crossbeam_queue.specs.Fifo.{Pushes, Pops, Forks, Merges, Learns, Held}
use Rattle.plinq_stream.specs.declared.pass_knowledge.PassKnowledge.{PassKnowledge}
use Rattle.plinq_stream.specs.declared.sent.Sent.{Sent}
use Rattle.plinq_stream.specs.Knowing.{nothing_known, first_known, with_sent, with_received, without_first, with_first, together}
use Rattle.plinq_stream.proofs.Numbers.{from-below}
use Rattle.plinq_stream.proofs.Under.{has-append, or-left, or-right, or-cases, or-none, or-first, or-second, either-way, has-split, under-append, under-apart}
use Rattle.plinq_stream.specs.Streams.{has, under, Fits, IsNobodys, IsStream, MayHandOut, HasReceived, HasReceivedAll}

module _ {A : Type 0} where
  set_at : (l : List A) (i : ℕ) (a b : A) → get_elem? l i ≡ some a → get_elem? (set l i b) i ≡ some b
  set_at [] i a b e = absurd (some-ne-none a (sym e))
  set_at (x ∷ xs) zero a b e = refl
  set_at (x ∷ xs) (suc i) a b e = set_at xs i a b e

  length-set_at : (l : List A) (i : ℕ) (b : A) → length (set l i b) ≡ length l
  length-set_at [] i b = refl
  length-set_at (x ∷ xs) zero b = refl
  length-set_at (x ∷ xs) (suc i) b = ap suc (length-set_at xs i b)

  at_end : (l : List A) (a b : A) (j : ℕ) → get_elem? (l ++ a ∷ []) j ≡ some b → (get_elem? l j ≡ some b) ⊎ ((j ≡ length l) × (a ≡ b))
  at_end [] a b zero e = inr (refl, some-injective a b e)
  at_end [] a b (suc j) e = absurd (some-ne-none b (sym e))
  at_end (x ∷ xs) a b zero e = inl e
  at_end (x ∷ xs) a b (suc j) e = ⊎_elim (λ h. inl h) (λ h. inr (ap suc h.0, h.1)) (at_end xs a b j e)

  -- what holds of each after one was set holds of each before, where it holds of that one
  each-unset : (F : A → Type 0) (l : List A) (i : ℕ) (v w : A) → get_elem? l i ≡ some v → F v → ((j : ℕ) (u : A) → get_elem? (set l i w) j ≡ some u → F u)
      → (j : ℕ) (u : A) → get_elem? l j ≡ some u → F u
  each-unset F l i v w at own all j u e = dite (ℕ_discrete j i)
      (λ is. subst F (some-injective v u (sym at ∙ subst (λ k. get_elem? l k ≡ some u) is e)) own)
      (λ not. all j u (set_else l i j w not ∙ e))

All-after : {X : Type 0} (P : X → Type 0) (xs ys : List X) → All P (xs ++ ys) → All P ys
All-after P [] ys all = all
All-after P (x ∷ xs) ys all = All-after P xs ys (All-tail P x (xs ++ ys) all)

module _ {T : Type 0} (Carried : T → Type 0) where
  pub begins : IsStream Carried [] (first_known ∷ [])
  begins = record {
    received = [];
    seat = λ n. 0;
    reader = 0;
    each = λ pass a at. let is = alone pass a at in subst (λ (x : ℕ × PassKnowledge T). Fits (λ n. 0) 0 [] [] x.0 x.1) (λ i. (is.0 i, is.1 i))
        (record { alone = λ n h. refl; below = λ n h. from-below 0 n 64 h; sent = λ n h. refl; only = λ n h. refl; received_all = λ h. (refl, refl) });
    others = λ n h. refl;
    carried = All-nil (λ s. Carried s.item);
  }
    where
      alone : (pass : ℕ) (a : PassKnowledge T) → get_elem? (first_known ∷ []) pass ≡ some a → (0 ≡ pass) × (first_known ≡ a)
      alone zero a at = (refl, some-injective first_known a at)
      alone (suc pass) a at = absurd (some-ne-none a (sym at))

  module _ (pass : ℕ) (a : PassKnowledge T) where
    pub sends : (room : ℕ) (s : Sent T) → has s.number a.numbers ≡ true → Carried s.item → Pushes (IsStream Carried) room pass a s (λ b. b ≡ with_sent a s)
    sends room s own admits items views short h at =
        let b : PassKnowledge T = with_sent a s in
        let before = h.received ++ items in
        let after = h.received ++ (items ++ s ∷ []) in
        let longer : before ++ s ∷ [] ≡ after = append_assoc h.received items (s ∷ []) in
        let mine = h.each pass a at in
        let under-after : (n : ℕ) → under n after ≡ under n before ++ under n (s ∷ []) = λ n. ap (under n) (sym longer) ∙ under-append n before (s ∷ []) in
        let same : (n : ℕ) → has n a.numbers ≡ false → under n after ≡ under n before =
        λ n not. under-after n ∙ ap (λ l. under n before ++ l) (under-apart n s a.numbers own not) ∙ append-nil (under n before) in
        let fits : Fits h.seat h.reader h.received after pass b = record {
          alone = mine.alone;
          below = mine.below;
          sent = λ n is. under-after n ∙ ap (λ l. l ++ under n (s ∷ [])) (mine.sent n is) ∙ sym (under-append n a.sent (s ∷ []));
          only = λ n not. under-append n a.sent (s ∷ []) ∙ ap (λ l. l ++ under n (s ∷ [])) (mine.only n not) ∙ under-apart n s a.numbers own not;
          received_all = mine.received_all;
        } in (
          b,
          record {
            received = h.received;
            seat = h.seat;
            reader = h.reader;
            each =
                λ j u e. ⊎_elim (λ (x : (j ≡ pass) × (b ≡ u)). subst (λ (y : ℕ × PassKnowledge T). Fits h.seat h.reader h.received after y.0 y.1)
                (λ i. (sym x.0 i, x.1 i)) fits)
                (λ (x : (j ≢ pass) × (get_elem? views j ≡ some u)).
                let theirs = h.each j u x.1 in
                let apart : (n : ℕ) → has n u.numbers ≡ true → has n a.numbers ≡ false =
                λ n is. ⊎_elim (λ both. absurd (x.0 (sym (theirs.alone n is) ∙ mine.alone n both))) (λ not. not) (either-way (has n a.numbers)) in
                record {
                  alone = theirs.alone;
                  below = theirs.below;
                  sent = λ n is. same n (apart n is)
                      ∙ theirs.sent n is;
                  only = theirs.only;
                  received_all = theirs.received_all;
                })
                (at_set views pass j b u e);
            others = λ n nobody.
                let not : has n a.numbers ≡ false = nobody pass b (set_at views pass a b at) in
                same n not ∙ h.others n (each-unset (λ u. has n u.numbers ≡ false) views pass a b at not nobody);
            carried = subst (All (λ x. Carried x.item)) longer (All-push (λ x. Carried x.item) before s h.carried admits);
          },
          refl,
        )

    pub comes : a.receives ≡ true → Pops (IsStream Carried) pass a (λ s b. (b ≡ with_received a s) × Carried s.item)
    comes may s items views h at =
        let b : PassKnowledge T = with_received a s in
        let received = h.received ++ s ∷ [] in
        let stream = h.received ++ s ∷ items in
        let same : stream ≡ received ++ items = sym (append_assoc h.received (s ∷ []) items) in
        let mine = h.each pass a at in
        let mine_all = mine.received_all may in
        let fits : Fits h.seat h.reader received stream pass b = record {
          alone = mine.alone;
          below = mine.below;
          sent = mine.sent;
          only = mine.only;
          received_all = λ _. (mine_all.0, ap (λ l. l ++ s ∷ []) mine_all.1);
        } in
        let each : (j : ℕ) (u : PassKnowledge T) → get_elem? (set views pass b) j ≡ some u → Fits h.seat h.reader received stream j u =
        λ j u e. ⊎_elim (λ (x : (j ≡ pass) × (b ≡ u)). subst (λ (y : ℕ × PassKnowledge T). Fits h.seat h.reader received stream y.0 y.1)
        (λ i. (sym x.0 i, x.1 i)) fits)
        (λ (x : (j ≢ pass) × (get_elem? views j ≡ some u)).
        let theirs = h.each j u x.1 in
        record {
          alone = theirs.alone;
          below = theirs.below;
          sent = theirs.sent;
          only = theirs.only;
          received_all = λ is. absurd
              (x.0 ((theirs.received_all is).0 ∙ sym mine_all.0));
        })
        (at_set views pass j b u e) in
        let others : (n : ℕ) → IsNobodys (set views pass b) n → under n stream ≡ [] =
        λ n nobody. h.others n (each-unset (λ u. has n u.numbers ≡ false) views pass a b at (nobody pass b (set_at views pass a b at)) nobody) in (
          b,
          record {
            received = received;
            seat = h.seat;
            reader = h.reader;
            each = λ j u e. subst (λ l. Fits h.seat h.reader received l j u) same (each j u e);
            others = λ n nobody. ap (under n) (sym same) ∙ others n nobody;
            carried = subst (All (λ x. Carried x.item)) same h.carried;
          },
          (refl, All-head (λ x. Carried x.item) s items (All-after (λ x. Carried x.item) h.received (s ∷ items) h.carried)),
        )

    pub hands_out : MayHandOut a → Forks (IsStream Carried) pass a (without_first a) (with_first a)
    hands_out may items views h at =
        let left : PassKnowledge T = without_first a in
        let right : PassKnowledge T = with_first a in
        let made = set views pass left in
        let stream = h.received ++ items in
        let mine = h.each pass a at in
        let seat : ℕ → ℕ = λ n. if has n (take 1 a.numbers) then length made else h.seat n in
        let seat-new : (n : ℕ) → has n (take 1 a.numbers) ≡ true → seat n ≡ length made = λ n is. ap (λ (x : Bool). if x then length made else h.seat n) is in
        let seat-old : (n : ℕ) → has n (take 1 a.numbers) ≡ false → seat n ≡ h.seat n = λ n is. ap (λ (x : Bool). if x then length made else h.seat n) is in
        let was-first : (n : ℕ) → has n (take 1 a.numbers) ≡ true → has n a.numbers ≡ true =
        λ n is. has-split n a.numbers ∙ or-first (has n (take 1 a.numbers)) (has n (drop 1 a.numbers)) is in
        let was-rest : (n : ℕ) → has n (drop 1 a.numbers) ≡ true → has n a.numbers ≡ true =
        λ n is. has-split n a.numbers ∙ or-second (has n (take 1 a.numbers)) (has n (drop 1 a.numbers)) is in
        let fits-left : Fits seat h.reader h.received stream pass left = record {
          alone =
              λ n is. ⊎_elim (λ first. absurd (true≢false (sym is ∙ may.once n first))) (λ not. seat-old n not ∙ mine.alone n (was-rest n is))
              (either-way (has n (take 1 a.numbers)));
          below = λ n is. mine.below n (was-rest n is);
          sent = λ n is. mine.sent n (was-rest n is);
          only = λ n not. ⊎_elim (λ first. may.unsent n first)
              (λ none. mine.only n (has-split n a.numbers ∙ or-none (has n (take 1 a.numbers)) (has n (drop 1 a.numbers)) none not))
              (either-way (has n (take 1 a.numbers)));
          received_all = mine.received_all;
        } in
        let fits-right : Fits seat h.reader h.received stream (length made) right = record {
          alone = seat-new;
          below = λ n is. mine.below n (was-first n is);
          sent = λ n is. mine.sent n (was-first n is) ∙ may.unsent n is;
          only = λ n not. refl;
          received_all = λ is. absurd (true≢false (sym is));
        } in
        record {
          received = h.received;
          seat = seat;
          reader = h.reader;
          each = λ j u e. ⊎_elim
              (λ (old : get_elem? made j ≡ some u). ⊎_elim
              (λ (x : (j ≡ pass) × (left ≡ u)). subst (λ (y : ℕ × PassKnowledge T). Fits seat h.reader h.received stream y.0 y.1)
              (λ i. (sym x.0 i, x.1 i)) fits-left)
              (λ (x : (j ≢ pass) × (get_elem? views j ≡ some u)).
              let theirs = h.each j u x.1 in
              record {
                alone =
                    λ n is. ⊎_elim (λ first. absurd (x.0 (sym (theirs.alone n is) ∙ mine.alone n (was-first n first))))
                    (λ not. seat-old n not ∙ theirs.alone n is)
                    (either-way (has n (take 1 a.numbers)));
                below = theirs.below;
                sent = theirs.sent;
                only = theirs.only;
                received_all = theirs.received_all;
              })
              (at_set views pass j left u old))
              (λ (x : (j ≡ length made) × (right ≡ u)). subst (λ (y : ℕ × PassKnowledge T). Fits seat h.reader h.received stream y.0 y.1)
              (λ i. (sym x.0 i, x.1 i)) fits-right)
              (at_end made right u j e);
          others = λ n nobody.
              let old : IsNobodys made n = λ j u e. nobody j u (at_longer made (right ∷ []) j u e) in
              let rest : has n (drop 1 a.numbers) ≡ false = old pass left (set_at views pass a left at) in
              let first : has n (take 1 a.numbers) ≡ false = nobody (length made) right (at_last made right (length made) refl) in
              let own : has n a.numbers ≡ false = has-split n a.numbers ∙ or-none (has n (take 1 a.numbers)) (has n (drop 1 a.numbers)) first rest in
              h.others n (each-unset (λ u. has n u.numbers ≡ false) views pass a left at own old);
          carried = h.carried;
        }

    pub takes_in : (other : ℕ) (b : PassKnowledge T) → b.receives ≡ false → Merges (IsStream Carried) pass a other b (together a b) nothing_known
    takes_in other b sender items views h at two at' =
        let both : PassKnowledge T = together a b in
        let made = set views pass both in
        let stream = h.received ++ items in
        let was : get_elem? views other ≡ some b = ⊎_elim (λ x. absurd (two x.0)) (λ x. x.1) (at_set views pass other both b at') in
        let mine = h.each pass a at in
        let theirs = h.each other b was in
        let seat : ℕ → ℕ = λ n. if has n b.numbers then pass else h.seat n in
        let seat-new : (n : ℕ) → has n b.numbers ≡ true → seat n ≡ pass = λ n is. ap (λ (x : Bool). if x then pass else h.seat n) is in
        let seat-old : (n : ℕ) → has n b.numbers ≡ false → seat n ≡ h.seat n = λ n is. ap (λ (x : Bool). if x then pass else h.seat n) is in
        let apart : (n : ℕ) → has n a.numbers ≡ true → has n b.numbers ≡ false =
        λ n is. ⊎_elim (λ too. absurd (two (sym (theirs.alone n too) ∙ mine.alone n is))) (λ not. not) (either-way (has n b.numbers)) in
        let fits : Fits seat h.reader h.received stream pass both = record {
          alone =
              λ n is. ⊎_elim (λ own. seat-old n (apart n own) ∙ mine.alone n own) (λ new. seat-new n new)
              (or-cases (has n a.numbers) (has n b.numbers) (sym (has-append n a.numbers b.numbers) ∙ is));
          below = λ n is. ⊎_elim (λ own. mine.below n own) (λ new. theirs.below n new)
              (or-cases (has n a.numbers) (has n b.numbers) (sym (has-append n a.numbers b.numbers) ∙ is));
          sent = λ n is. ⊎_elim
              (λ own. mine.sent n own ∙ sym (under-append n a.sent b.sent ∙ ap (λ l. under n a.sent ++ l) (theirs.only n (apart n own))
              ∙ append-nil (under n a.sent)))
              (λ new. ⊎_elim (λ own. absurd (true≢false (sym new ∙ apart n own)))
              (λ not. theirs.sent n new ∙ sym (under-append n a.sent b.sent ∙ ap (λ l. l ++ under n b.sent) (mine.only n not))) (either-way (has n a.numbers)))
              (or-cases (has n a.numbers) (has n b.numbers) (sym (has-append n a.numbers b.numbers) ∙ is));
          only = λ n not.
              let none = sym (has-append n a.numbers b.numbers) ∙ not in
              under-append n a.sent b.sent ∙ ap (λ l. l ++ under n b.sent) (mine.only n (or-left (has n a.numbers) (has n b.numbers) none))
              ∙ theirs.only n (or-right (has n a.numbers) (has n b.numbers) none);
          received_all = mine.received_all;
        } in
        let spent : Fits seat h.reader h.received stream other nothing_known = record {
          alone = λ n is. absurd (true≢false (sym is));
          below = λ n is. absurd (true≢false (sym is));
          sent = λ n is. absurd (true≢false (sym is));
          only = λ n not. refl;
          received_all = λ is. absurd (true≢false (sym is));
        } in
        record {
          received = h.received;
          seat = seat;
          reader = h.reader;
          each =
              λ j u e. ⊎_elim (λ (x : (j ≡ other) × (nothing_known ≡ u)). subst (λ (y : ℕ × PassKnowledge T). Fits seat h.reader h.received stream y.0 y.1)
              (λ i. (sym x.0 i, x.1 i)) spent)
              (λ (far : (j ≢ other) × (get_elem? made j ≡ some u)). ⊎_elim
              (λ (x : (j ≡ pass) × (both ≡ u)). subst (λ (y : ℕ × PassKnowledge T). Fits seat h.reader h.received stream y.0 y.1)
              (λ i. (sym x.0 i, x.1 i)) fits)
              (λ (x : (j ≢ pass) × (get_elem? views j ≡ some u)).
              let here = h.each j u x.1 in
              record {
                alone =
                    λ n is. ⊎_elim (λ too. absurd (far.0 (sym (here.alone n is) ∙ theirs.alone n too))) (λ not. seat-old n not ∙ here.alone n is)
                    (either-way (has n b.numbers));
                below = here.below;
                sent = here.sent;
                only = here.only;
                received_all = here.received_all;
              })
              (at_set views pass j both u far.1))
              (at_set made other j nothing_known u e);
          others = λ n nobody.
              let none : has n (a.numbers ++ b.numbers) ≡ false =
              nobody pass both (set_else made other pass nothing_known (λ e. two (sym e)) ∙ set_at views pass a both at) in
              let none' = sym (has-append n a.numbers b.numbers) ∙ none in
              let own = or-left (has n a.numbers) (has n b.numbers) none' in
              let theirs' = or-right (has n a.numbers) (has n b.numbers) none' in
              let F : PassKnowledge T → Type 0 = λ u. has n u.numbers ≡ false in
              h.others n (each-unset F views pass a both at own (each-unset F made other b nothing_known at' theirs' nobody));
          carried = h.carried;
        }

    pub has_come : a.receives ≡ true → Learns (IsStream Carried) pass a (HasReceived a)
    has_come may items views h at =
        let mine = h.each pass a at in
        let same : h.received ++ items ≡ a.received ++ items = ap (λ l. l ++ items) (sym (mine.received_all may).1) in
        record {
          own = λ n is. sym (mine.sent n is) ∙ ap (under n) same;
          none = λ n far.
              ap (under n) (sym same)
              ∙ h.others n (λ j u e. ⊎_elim (λ is. let near : n < 64 = (h.each j u e).below n is in absurd (omega (arith, near, far))) (λ not. not)
              (either-way (has n u.numbers)));
        }

-- at a moment at which the queue holds nothing, all has come
module _ {T : Type 0} where
  come-at_empty : (a b : PassKnowledge T) → b ≡ a → (items : List (Sent T)) → length items ≡ 0 → HasReceived a items → HasReceivedAll b
  come-at_empty a b same [] none come =
      let all : a.received ++ [] ≡ a.received = append-nil a.received in
      subst HasReceivedAll (sym same)
      (record { own = λ n is. sym (come.own n is ∙ ap (under n) all); none = λ n far. ap (under n) (sym all) ∙ come.none n far })
  come-at_empty a b same (x ∷ items) none come = absurd (omega arith)

  pub all-come : (P : Sent T → Type 0) (a b : PassKnowledge T) (result : Option (Sent T)) → MatchOption result ((b ≡ a) × Held 0 (HasReceived a)) P
      → IfNone result (HasReceivedAll b)
  all-come P a b None h = come-at_empty a b h.0 h.1.0 h.1.1 h.1.2
  all-come P a b (Some s) h = tt
