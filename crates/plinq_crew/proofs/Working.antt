-- What a worker sends are the results of its records, one after another.
use Rattle.std.proofs.Common.{◌≡◌, ◌≢◌, ℕ, ◌+◌, ◌≤◌, ◌<◌, ◌==◌, eq-eqb, ◌||◌, List, [], ◌∷◌, ◌++◌, Option, Some, None, is_some, true, false}
use Rattle.std.proofs.Common.{true≢false, Bool, if◌then◌else◌, IfSome, All, take, drop, refl, sym, ap, ◌∙◌, subst, arith}
use Rattle.std.proofs.lemmas.List.{append-nil}
use Rattle.std.proofs.lemmas.List.Elements.{All-push, All-append, All-weaker}
use Rattle.std.specs.List.{AllZip}
use Rattle.plinq_source.specs.Trace.{Trace}
use Rattle.plinq_keyed.specs.declared.chunk.Chunk.{Chunk}
use Rattle.plinq_keyed.specs.declared.record.Record.{Record}
use Rattle.plinq_lambda.specs.Meaning.{Meaning}
use Rattle.plinq_ops.specs.declared.op.Op.{Op}
use Rattle.plinq_ops.specs.declared.plan.Plan.{Plan}
use Rattle.plinq_ops.specs.declared.results.ChunkResult.{ChunkResult}
use Rattle.plinq_ops.specs.Chunk.{IsChunkResult}
use Rattle.plinq_partition.specs.declared.take_fault.TakeFault.{TakeFault}
use Rattle.plinq_partition.specs.Partitions.{Holding, IsTakenOf, holding_of}
use Rattle.plinq_stream.specs.declared.pass_knowledge.PassKnowledge.{PassKnowledge}
use Rattle.plinq_stream.specs.declared.sent.Sent.{Sent}
use Rattle.plinq_stream.specs.Knowing.{with_sent, with_first, without_first, together}
use Rattle.plinq_stream.specs.Streams.{has, under}
use Rattle.plinq_stream.proofs.Numbers.{first-of, rest-of}
use Rattle.plinq_stream.proofs.Under.{has-append, or-first, or-second, under-append, under-own, under-none}
use Rattle.plinq_crew.specs.Working.{Answers, IsOpen, Follows, HasTakenChunk, sender, IsAtWork, HasWorked, IsAnsweredBy, IsWhollyAnsweredBy}
use Rattle.plinq_crew.specs.Working.{HasNumbersFrom, IsReceiver}
use Rattle.plinq_crew.specs.Noted.{has_worker_fault, lacks_room, has_noted, StaysNoted}
use Rattle.plinq_crew.specs.Results.{IsOfSameChunk, IsPart}
use Rattle.plinq_crew.specs.inner.Taking.{IsNextPart}
use Rattle.plinq_crew.specs.declared.starting.WorkerFaults.{WorkerFaults}
use Rattle.plinq_source.specs.declared.source.Source.{Ghosts}
use Rattle.plinq_partition.specs.declared.partition.Partition.{Partition}

AllZip-more : {A B : Type 0} (R : A → B → Type 0) (xs : List A) (ys : List B) (x : A) (y : B) → AllZip R xs ys → R x y → AllZip R (xs ++ x ∷ []) (ys ++ y ∷ [])
AllZip-more R [] [] x y all is = (is, tt)
AllZip-more R [] (b ∷ ys) x y all is = absurd all
AllZip-more R (a ∷ xs) [] x y all is = absurd all
AllZip-more R (a ∷ xs) (b ∷ ys) x y all is = (all.0, AllZip-more R xs ys x y all.1 is)

-- the chunk of a record was taken, and this is its result
pub taken-result : {L T : Type 0} (meaning : L → Meaning T) (worker : List (Op L)) (n : ℕ) (a b : Holding T) (cut : ℕ) (chunk : Chunk T)
    (r : ChunkResult T)
    → IsTakenOf n a b chunk → IsChunkResult meaning worker cut chunk r → HasTakenChunk a.share b.share r
taken-result meaning worker n a b cut chunk r taken made = record {
  entry = taken.entry;
  share_is = taken.adds.share;
  answers = record { first = made.first ∙ taken.of.first; count = made.count ∙ taken.counted; tail = made.tail ∙ taken.of.tail };
}

-- and so is what was made of that result
pub taken-part : {T M : Type 0} (share share' : List Record) (r : ChunkResult T) (c : ChunkResult M) → HasTakenChunk share share' r
    → IsOfSameChunk r c → HasTakenChunk share share' c
taken-part share share' r c taken same = record {
  entry = taken.entry;
  share_is = taken.share_is;
  answers = record { first = same.first ∙ taken.answers.first; count = same.count ∙ taken.answers.count; tail = same.tail ∙ taken.answers.tail };
}

module _ {T : Type 0} (number : ℕ) where
  module _ (share share' : List Record) (a b : PassKnowledge (ChunkResult T)) (r : ChunkResult T) (h : IsAtWork number share a)
      (taken : HasTakenChunk share share' r)
      (is : b ≡ with_sent a (record { number = number; item = r })) where
    sent-is : b.sent ≡ a.sent ++ record { number = number; item = r } ∷ []
    sent-is = ap (λ (k : PassKnowledge (ChunkResult T)). k.sent) is

    under-sent : under number b.sent ≡ under number a.sent ++ r ∷ []
    under-sent =
        ap (under number) sent-is ∙ under-append number a.sent (record { number = number; item = r } ∷ [])
        ∙ ap (λ l. under number a.sent ++ l) (under-own number r)

    knows-sent : b ≡ sender number b.sent
    knows-sent = is ∙ ap (λ (k : PassKnowledge (ChunkResult T)). with_sent k (record { number = number; item = r })) h.knows ∙ ap (sender number) (sym sent-is)

    own-sent : All (λ s. s.number ≡ number) b.sent
    own-sent =
        subst (All (λ s. s.number ≡ number)) (sym sent-is) (All-push (λ (s : Sent (ChunkResult T)). s.number ≡ number) a.sent
        (record { number = number; item = r }) h.own refl)

    are-sent : AllZip Answers share' (under number b.sent)
    are-sent = rw (taken.share_is, under-sent) (AllZip-more Answers share (under number a.sent) taken.entry r h.are taken.answers)

    pub goes-on : is_some r.tail ≡ false → IsAtWork number share' b
    goes-on none = record {
      knows = knows-sent;
      own = own-sent;
      are = are-sent;
      opens = subst (All IsOpen) (sym under-sent) (All-push IsOpen (under number a.sent) r h.opens (no-tail r.tail none));
    }
      where
        no-tail : {A : Type 0} (o : Option A) → is_some o ≡ false → o ≡ None
        no-tail None e = refl
        no-tail (Some x) e = absurd (true≢false e)

    pub ends-work : is_some r.tail ≡ true → HasWorked number share' None b
    ends-work last = record {
      knows = knows-sent;
      own = own-sent;
      follows = record {
        answered = share';
        rest = [];
        share_is = sym (append-nil share');
        are = are-sent;
        stops = (refl, record { before = under number a.sent; last = r; are = under-sent; opens = h.opens; tail = last });
      };
    }

-- what a worker has sent was made of results of the source, and so was its next part
pub each-part : {L T M : Type 0} {meaning : L → Meaning T} {makes : ChunkResult T → ChunkResult M → Type 0} {plan : Plan L} {t : Trace T}
    {before after : Holding T} {part : ChunkResult M} {b : PassKnowledge (ChunkResult M)}
    (number : ℕ) (a : PassKnowledge (ChunkResult M)) → IsNextPart meaning makes plan before after part → before.origin ≡ t
    → b ≡ with_sent a (record { number = number; item = part })
    → All (λ s. IsPart meaning makes plan t s.item) a.sent → All (λ s. IsPart meaning makes plan t s.item) b.sent
each-part {L} {T} {M} {meaning} {makes} {plan} {t} {before} {after} {part} number a next origin is all =
    let P : Sent (ChunkResult M) → Type 0 = λ s. IsPart meaning makes plan t s.item in
    subst (All P) (sym (ap (λ (k : PassKnowledge (ChunkResult M)). k.sent) is)) (All-push P a.sent (record { number = number; item = part }) all
    (rw (← origin) next.is))

-- ---- numbers are handed out one after another

pub first-handed : {T : Type 0} (n : ℕ) (a b : PassKnowledge (ChunkResult T)) → n < 64 → HasNumbersFrom n a → b ≡ with_first a → b ≡ sender n []
first-handed n a b less has made =
    made ∙ ap (λ l. record { numbers = take 1 l; sent = []; receives = false; received = [] }) has
    ∙ ap (λ l. record { numbers = l; sent = []; receives = false; received = [] }) (first-of n 64 less)

module _ {T : Type 0} (n : ℕ) (a b : PassKnowledge (ChunkResult T)) where
  pub rest-handed : n < 64 → HasNumbersFrom n a → b ≡ without_first a → HasNumbersFrom (n + 1) b
  rest-handed less has made = ap (λ (k : PassKnowledge (ChunkResult T)). k.numbers) made ∙ ap (drop 1) has ∙ rest-of n 64 less

  pub handed-receiver : IsReceiver a → b ≡ without_first a → IsReceiver b
  handed-receiver h made = record {
    receives = ap (λ (k : PassKnowledge (ChunkResult T)). k.receives) made ∙ h.receives;
    sent = ap (λ (k : PassKnowledge (ChunkResult T)). k.sent) made ∙ h.sent;
  }

-- ---- a worker's pass is taken in, whose number is below those that were taken in before

module _ {T : Type 0} (a b c : PassKnowledge (ChunkResult T)) (is : c ≡ together a b) where
  under-both : (k : ℕ) → under k c.sent ≡ under k a.sent ++ under k b.sent
  under-both k = ap (λ (x : PassKnowledge (ChunkResult T)). under k x.sent) is ∙ under-append k a.sent b.sent

  has-both : (k : ℕ) → has k c.numbers ≡ (has k a.numbers || has k b.numbers)
  has-both k = ap (λ (x : PassKnowledge (ChunkResult T)). has k x.numbers) is ∙ has-append k a.numbers b.numbers

  pub above-both : (n least : ℕ) → least ≡ n + 1 → All (λ s. least ≤ s.number) a.sent → All (λ s. s.number ≡ n) b.sent → All (λ s. n ≤ s.number) c.sent
  above-both n least next above own =
      subst (All (λ s. n ≤ s.number)) (sym (ap (λ (x : PassKnowledge (ChunkResult T)). x.sent) is))
      (All-append (λ (s : Sent (ChunkResult T)). n ≤ s.number) a.sent b.sent
      (All-weaker (λ (s : Sent (ChunkResult T)). least ≤ s.number) (λ s. n ≤ s.number) (λ s h. omega arith) a.sent above)
      (All-weaker (λ (s : Sent (ChunkResult T)). s.number ≡ n) (λ s. n ≤ s.number) (λ s h. omega arith) b.sent own))

-- a fault that was noted is noted still
still-noted : (old faults : WorkerFaults) → StaysNoted old faults → (fault : Option TakeFault) → IfSome fault (λ f. has_noted old f ≡ true)
    → IfSome fault (λ f. has_noted faults f ≡ true)
still-noted old faults kept None noted = tt
still-noted old faults kept (Some fault) noted = by-kind (lacks_room fault) noted
  where
    by-kind : (b : Bool) → (if b then old.memory else old.tickets) ≡ true → (if b then faults.memory else faults.tickets) ≡ true
    by-kind true = kept.0
    by-kind false = kept.1

faults-by : (faults : WorkerFaults) (b : Bool) → (if b then faults.memory else faults.tickets) ≡ true → has_worker_fault faults ≡ true
faults-by faults true is = or-first faults.memory faults.tickets is
faults-by faults false is = or-second faults.memory faults.tickets is

module _ {S T M : Type 0} {source : Ghosts S T} where
  -- without a fault all records are answered
  pub answered-wholly : (a b : PassKnowledge (ChunkResult M)) (faults : WorkerFaults) → b.sent ≡ a.sent → b.numbers ≡ a.numbers
      → has_worker_fault faults ≡ false → (p : Partition S T source)
      → IsAnsweredBy 0 a faults p → IsWhollyAnsweredBy b p
  answered-wholly a b faults sent numbers none p h = record {
    number = h.number;
    own = ap (has h.number) numbers ∙ h.own;
    follows = subst (λ l. Follows (holding_of p).share None (under h.number l)) (sym sent) (whole h.fault h.noted h.follows);
  }
    where
      whole : (fault : Option TakeFault) → IfSome fault (λ f. has_noted faults f ≡ true) → Follows (holding_of p).share fault (under h.number a.sent)
          → Follows (holding_of p).share None (under h.number a.sent)
      whole None noted follows = follows
      whole (Some fault) noted follows = absurd (true≢false (sym (faults-by faults (lacks_room fault) noted) ∙ none))

  module _ (n least : ℕ) (next : least ≡ n + 1) (a b c : PassKnowledge (ChunkResult M)) (is : c ≡ together a b) (old faults : WorkerFaults)
      (kept : StaysNoted old faults) where
    pub answered-before : All (λ s. s.number ≡ n) b.sent → (p : Partition S T source) → IsAnsweredBy least a old p → IsAnsweredBy n c faults p
    answered-before own p h =
        let k = h.number in
        let none : under k b.sent ≡ [] =
        under-none k b.sent (All-weaker (λ (s : Sent (ChunkResult M)). s.number ≡ n) (λ s. s.number ≢ k)
        (λ s e same. let far : least ≤ k = h.above in omega arith) b.sent own) in
        record {
          number = k;
          above = (let far : least ≤ k = h.above in omega arith);
          own = has-both a b c is k ∙ or-first (has k a.numbers) (has k b.numbers) h.own;
          fault = h.fault;
          noted = still-noted old faults kept h.fault h.noted;
          follows =
              subst (Follows (holding_of p).share h.fault) (sym (under-both a b c is k ∙ ap (λ l. under k a.sent ++ l) none ∙ append-nil (under k a.sent)))
              h.follows;
        }

    pub answered-now : All (λ s. least ≤ s.number) a.sent → (p : Partition S T source) (fault : Option TakeFault)
        → IfSome fault (λ f. has_noted faults f ≡ true) → HasWorked n (holding_of p).share fault b → IsAnsweredBy n c faults p
    answered-now above p fault noted h =
        let none : under n a.sent ≡ [] =
        under-none n a.sent (All-weaker (λ (s : Sent (ChunkResult M)). least ≤ s.number) (λ s. s.number ≢ n) (λ s e same. omega arith) a.sent above) in
        record {
          number = n;
          above = omega arith;
          own =
              has-both a b c is n
              ∙ or-second (has n a.numbers) (has n b.numbers) (ap (λ (x : PassKnowledge (ChunkResult M)). has n x.numbers) h.knows
              ∙ or-first (n == n) false (eq-eqb n n refl));
          fault = fault;
          noted = noted;
          follows = subst (Follows (holding_of p).share fault) (sym (under-both a b c is n ∙ ap (λ l. l ++ under n b.sent) none)) h.follows;
        }

-- what a pass has answered is answered by one that knows the same
pub answered-same : {S T M : Type 0} {source : Ghosts S T} (a b : PassKnowledge (ChunkResult M)) (faults : WorkerFaults) (ps : List (Partition S T source))
    → b.sent ≡ a.sent → b.numbers ≡ a.numbers
    → All (IsAnsweredBy 0 a faults) ps → All (IsAnsweredBy 0 b faults) ps
answered-same a b faults ps sent numbers answered =
    All-weaker (IsAnsweredBy 0 a faults) (IsAnsweredBy 0 b faults)
    (λ p h. record {
      number = h.number;
      above = h.above;
      own = ap (has h.number) numbers ∙ h.own;
      fault = h.fault;
      noted = h.noted;
      follows = subst (λ l. Follows (holding_of p).share h.fault (under h.number l)) (sym sent) h.follows;
    }) ps answered
