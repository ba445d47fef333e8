-- What workers have sent is of their records.
use Rattle.std.proofs.Common.{◌≡◌, ◌≢◌, ℕ, suc, ◌<◌, ◌≤◌, ◌+◌, ◌||◌, ◌==◌, eqb-true, eq-eqb, List, [], ◌∷◌, ◌++◌, length, Option, Bool, true, false}
use Rattle.std.proofs.Common.{true≢false, All, refl, sym, ap, ◌∙◌, subst, ⊎_elim, arith}
use Rattle.std.specs.List.{AllZip, Any}
use Rattle.std.proofs.lemmas.Bool.{cases_lt}
use Rattle.std.proofs.lemmas.List.{get_or_push, length_push}
use Rattle.std.proofs.lemmas.List.Elements.{All-nil, All-cons, All-append, All-weaker, Contains-append_left, Contains-append_right}
use Rattle.plinq_source.specs.declared.source.Source.{Ghosts}
use Rattle.plinq_keyed.specs.declared.event.Event.TheVariants.{Close}
use Rattle.plinq_keyed.specs.declared.record.Record.{Record}
use Rattle.plinq_ops.specs.declared.results.ChunkResult.{ChunkResult}
use Rattle.plinq_partition.specs.declared.partition.Partition.{Partition}
use Rattle.plinq_partition.specs.declared.take_fault.TakeFault.{TakeFault}
use Rattle.plinq_partition.specs.Partitions.{Holding, IsStopped, all_shares, holding_of}
use Rattle.plinq_partition.proofs.Lists.{all_shares-last}
use Rattle.plinq_stream.specs.declared.pass_knowledge.PassKnowledge.{PassKnowledge}
use Rattle.plinq_stream.specs.declared.sent.Sent.{Sent}
use Rattle.plinq_stream.specs.Knowing.{together}
use Rattle.plinq_stream.specs.Streams.{has, under}
use Rattle.plinq_stream.proofs.Under.{has-append, or-none, or-first, or-second, either-way, under-none, all-under}
use Rattle.plinq_crew.specs.declared.closing.Closing.{Closing}
use Rattle.plinq_crew.specs.declared.coordinator.Coordinator.{Coordinator}
use Rattle.plinq_crew.specs.declared.starting.WorkerFaults.{WorkerFaults}
use Rattle.plinq_crew.specs.inner.Closing.{is_closed, StaysClosed}
use Rattle.plinq_crew.specs.inner.Coordinating.{ClosesInTime}
use Rattle.plinq_crew.specs.Noted.{has_worker_fault, StaysNoted}
use Rattle.plinq_crew.specs.Working.{HasClosed, Answers, IsOfOne, HasWorked}

module _ {X : Type 0} (P : X → Type 0) where
  any-left : (xs ys : List X) → Any P xs → Any P (xs ++ ys)
  any-left xs ys (k, x, less, at, is) = let there = Contains-append_left xs ys x (k, less, at) in (there.0, x, there.1, there.2, is)

  any-right : (xs ys : List X) → Any P ys → Any P (xs ++ ys)
  any-right xs ys (k, x, less, at, is) = let there = Contains-append_right xs ys x (k, less, at) in (there.0, x, there.1, there.2, is)

  any-last : (xs : List X) (x : X) → P x → Any P (xs ++ x ∷ [])
  any-last xs x is = (length xs, x, omega (arith, length_push xs x), get_or_push xs x x (length xs) refl, is)

  -- what holds of what a worker sent under its number holds of all that it sent
  own-sent : (number : ℕ) (ss : List (Sent X)) → All (λ s. s.number ≡ number) ss → All P (under number ss) → All (λ s. P s.item) ss
  own-sent number ss own all =
      all-under P ss (λ n. ⊎_elim (λ same. subst (λ m. All P (under m ss)) (eqb-true number n same) all)
      (λ other.
      let none = All-weaker (λ (s : Sent X). s.number ≡ number) (λ s. s.number ≢ n) (λ s is same. apart n other (sym is ∙ same)) ss own in
      subst (All P) (sym (under-none n ss none)) (All-nil P))
      (either-way (number == n)))
    where
      apart : (n : ℕ) → (number == n) ≡ false → number ≡ n → ⊥
      apart n other same = true≢false (sym (eq-eqb number n same) ∙ other)

module _ {T : Type 0} where
  all-one : (answered : List Record) (rs : List (ChunkResult T)) → AllZip Answers answered rs → All (IsOfOne answered) rs
  all-one [] [] all = All-nil (IsOfOne [])
  all-one [] (r ∷ rs) all = absurd all
  all-one (e ∷ es) [] all = absurd all
  all-one (e ∷ es) (r ∷ rs) all =
      All-cons (IsOfOne (e ∷ es)) r rs (0, e, omega arith, refl, all.0)
      (All-weaker (IsOfOne es) (IsOfOne (e ∷ es)) (λ q (k, x, less, at, is). (suc k, x, omega (arith, less), at, is)) rs (all-one es rs all.1))

  worked-one : (number : ℕ) (share : List Record) (fault : Option TakeFault) (a : PassKnowledge (ChunkResult T)) → HasWorked number share fault a
      → All (λ s. IsOfOne share s.item) a.sent
  worked-one number share fault a h =
      let f = h.follows in
      own-sent (IsOfOne share) number a.sent h.own
      (All-weaker (IsOfOne f.answered) (IsOfOne share)
      (λ r is. subst (λ rs. IsOfOne rs r) (sym f.share_is) (any-left (λ entry. Answers entry r) f.answered f.rest is))
      (under number a.sent) (all-one f.answered (under number a.sent) f.are))

-- ---- a worker's pass is taken in, and its partition comes after those that came before

module _ {S T : Type 0} {source : Ghosts S T} (ps : List (Partition S T source)) (p : Partition S T source) where
  pub closed-push : HasClosed (all_shares ps) → HasClosed (all_shares (ps ++ p ∷ []))
  closed-push is = subst HasClosed (sym (all_shares-last ps p)) (any-left (λ (r : Record). r.asked ≡ Close) (all_shares ps) (holding_of p).share is)

  module _ {M : Type 0} (a b c : PassKnowledge (ChunkResult M)) (is : c ≡ together a b) (number : ℕ) (fault : Option TakeFault)
      (work : HasWorked number (holding_of p).share fault b) where
    pub sent-push : All (λ s. IsOfOne (all_shares ps) s.item) a.sent → All (λ s. IsOfOne (all_shares (ps ++ p ∷ [])) s.item) c.sent
    sent-push before =
        let all = all_shares ps ++ (holding_of p).share in
        let Before : Sent (ChunkResult M) → Type 0 = λ s. IsOfOne (all_shares ps) s.item in
        let Now : Sent (ChunkResult M) → Type 0 = λ s. IsOfOne (holding_of p).share s.item in
        let Both : Sent (ChunkResult M) → Type 0 = λ s. IsOfOne all s.item in
        subst (λ rs. All (λ s. IsOfOne rs s.item) c.sent) (sym (all_shares-last ps p))
        (subst (All Both) (sym (ap (λ (x : PassKnowledge (ChunkResult M)). x.sent) is))
        (All-append Both a.sent b.sent
        (All-weaker Before Both (λ s one. any-left (λ entry. Answers entry s.item) (all_shares ps) (holding_of p).share one) a.sent before)
        (All-weaker Now Both (λ s one. any-right (λ entry. Answers entry s.item) (all_shares ps) (holding_of p).share one) b.sent
        (worked-one number (holding_of p).share fault b work))))

    pub numbers-push : (least : ℕ) → least ≡ number + 1 → ((n : ℕ) → least ≤ n → n < 64 → has n a.numbers ≡ true)
        → (n : ℕ) → number ≤ n → n < 64 → has n c.numbers ≡ true
    numbers-push least next before n above near =
        let both : has n c.numbers ≡ (has n a.numbers || has n b.numbers) =
        ap (λ (x : PassKnowledge (ChunkResult M)). has n x.numbers) is ∙ has-append n a.numbers b.numbers in
        both ∙ ⊎_elim (λ more. or-first (has n a.numbers) (has n b.numbers) (before n (omega (arith, next)) near))
        (λ least. or-second (has n a.numbers) (has n b.numbers)
        (ap (λ (x : PassKnowledge (ChunkResult M)). has n x.numbers) work.knows ∙ or-first (number == n) false (eq-eqb number n (omega arith))))
        (cases_lt number n)

-- ---- a source that was closed stays so

stopped-closed : {T : Type 0} (a b : Holding T) → IsStopped a b → HasClosed b.share
stopped-closed a b stopped = subst HasClosed (sym stopped.adds.share) (any-last (λ (r : Record). r.asked ≡ Close) a.share stopped.entry stopped.adds.asked_is)

module _ {S T M : Type 0} {source : Ghosts S T} {is_over : Bool} {before after : Closing} {a b : Coordinator S M T source}
    (closes : ClosesInTime is_over before a after b) where
  pub closes-stays : StaysClosed before (holding_of a.partition).share after (holding_of b.partition).share
  closes-stays had now =
      ⊎_elim (λ was. subst (λ (h : Holding T). HasClosed h.share) (sym (closes.unclosed (ap is_closed (closes.once was)))) (had was))
      (λ not. stopped-closed (holding_of a.partition) (holding_of b.partition) (closes.closed not now)) (either-way (is_closed before))

-- no fault was noted before where none is
pub none-before : (faults faults' : WorkerFaults) → StaysNoted faults faults' → has_worker_fault faults' ≡ false → has_worker_fault faults ≡ false
none-before faults faults' stays none = or-none faults.memory faults.tickets
    (⊎_elim (λ is. absurd (true≢false (sym (or-first faults'.memory faults'.tickets (stays.0 is)) ∙ none))) (λ not. not) (either-way faults.memory))
    (⊎_elim (λ is. absurd (true≢false (sym (or-second faults'.memory faults'.tickets (stays.1 is)) ∙ none))) (λ not. not) (either-way faults.tickets))
