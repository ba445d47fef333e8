-- The caller's thread goes on among its workers.
use Rattle.std.proofs.Common.{◌≡◌, ℕ, Bool, [], true, false, refl, sym, ap, ◌∙◌, subst}
use Rattle.plinq_source.specs.declared.source.Source.{Ghosts}
use Rattle.plinq_lambda.specs.Meaning.{Meaning}
use Rattle.plinq_ops.specs.declared.results.ChunkResult.{ChunkResult}
use Rattle.plinq_partition.specs.declared.partition.Partition.{Partition}
use Rattle.plinq_partition.specs.Partitions.{holding_of}
use Rattle.plinq_stream.specs.declared.pass_knowledge.PassKnowledge.{PassKnowledge}
use Rattle.plinq_stream.specs.Passes.{knowledge_of}
use Rattle.plinq_crew.specs.declared.closing.Closing.{Closing}
use Rattle.plinq_crew.specs.declared.coordinator.Coordinator.{Coordinator}
use Rattle.plinq_crew.specs.declared.poll.Poll.TheVariants.{Came}
use Rattle.plinq_crew.specs.declared.starting.Team.{Team}
use Rattle.plinq_crew.specs.declared.worker.Crew.{Crew}
use Rattle.plinq_crew.specs.declared.worker_count.WorkerCount.{WorkerCount}
use Rattle.plinq_crew.specs.inner.Closing.{wants_close, is_closed}
use Rattle.plinq_crew.specs.inner.Coordinating.{IsCoordinator, StaysSame, ClosesInTime, CanStart, AcceptsMore}
use Rattle.plinq_crew.specs.inner.Teams.{IsTeam}
use Rattle.plinq_crew.specs.Conducting.{AcceptsEach}
use Rattle.plinq_crew.specs.Polls.{HasAccepted, HasCome}
use Rattle.plinq_crew.specs.Working.{HasClosed}
use Rattle.plinq_crew.proofs.Cuts.{equipped-beside}
use Rattle.plinq_crew.proofs.Polls.{took-none, took-more}
use Rattle.plinq_crew.proofs.SentShares.{closes-stays}

-- one poll more: the source may have been closed at it
module _ {S T M X : Type 0} {source : Ghosts S T} {is_ready : X → Type 0} {accepts : X → ChunkResult M → X → Type 0}
    {IsPart : ChunkResult M → Type 0} {is_over : Bool} {a b c : Coordinator S M T source} {k l m : Closing} {x y : X}
    (more : AcceptsMore is_ready accepts IsPart a k x b l y) (same : StaysSame b c) (closes : ClosesInTime is_over l b m c) where
  stays : StaysSame a c
  stays =
      let first = more.same in
      record { origin = same.origin ∙ first.origin; numbers = same.numbers ∙ first.numbers; worker_count = same.worker_count ∙ first.worker_count }

  -- nothing came
  pub accepts-nothing : knowledge_of c.stream ≡ knowledge_of b.stream → AcceptsMore is_ready accepts IsPart a k x c m y
  accepts-nothing none = record {
    same = stays;
    ready = more.ready;
    closed = λ had. closes-stays closes (more.closed had);
    accepted = λ before start h.
        subst (λ (p : PassKnowledge (ChunkResult M)). HasAccepted (AcceptsEach accepts IsPart) before start p.received (wants_close m) y) (sym none)
        (took-none (wants_close l) closes.drops (more.accepted before start h));
  }

  -- this came, and it was accepted unless it is dropped
  pub accepts-one : (part : ChunkResult M) (z : X) → IsPart part → HasCome (knowledge_of b.stream) (Came part) (knowledge_of c.stream) → is_ready z
      → (wants_close m ≡ false → accepts y part z) → (wants_close m ≡ true → z ≡ y) → AcceptsMore is_ready accepts IsPart a k x c m z
  accepts-one part z is come ready step keeps = record {
    same = stays;
    ready = ready;
    closed = λ had. closes-stays closes (more.closed had);
    accepted = λ before start h.
        took-more (took-none (wants_close l) closes.drops (more.accepted before start h)) come.0
        (ap (λ (p : PassKnowledge (ChunkResult M)). p.received) come.2) refl
        (λ open_now. (subst IsPart (sym come.1) is, subst (λ r. accepts y r z) (sym come.1) (step open_now))) keeps;
  }

module _ {L S J P T M X : Type 0} {source : Ghosts S T} (meaning : L → Meaning T) (makes : P → ChunkResult T → ChunkResult M → Type 0)
    (MaySend : ChunkResult M → Type 0) (stops_at : ℕ → Bool) (is_ready : X → Type 0) (accepts : X → ChunkResult M → X → Type 0)
    (crew : Crew L S J P T T M source) (begun : Partition S T source) (x : X) where
  -- what stands of a run whenever workers may be started: what came was accepted, and a source that is closed has a record of that
  pub record IsUnderWay (c : Coordinator S M T source) (team : Team S M T source) (closing : Closing) (y : X) : Type 0 where
    pub may : CanStart meaning makes MaySend stops_at crew c team
    pub origin : (holding_of c.partition).origin ≡ (holding_of begun).origin
    pub closed : is_closed closing ≡ true → HasClosed (holding_of c.partition).share
    pub ready : is_ready y
    pub accepted : HasAccepted (AcceptsEach accepts MaySend) [] x (knowledge_of c.stream).received (wants_close closing) y

module _ {L S J P T M X : Type 0} {source : Ghosts S T} {meaning : L → Meaning T} {makes : P → ChunkResult T → ChunkResult M → Type 0}
    {MaySend : ChunkResult M → Type 0} {stops_at : ℕ → Bool} {is_ready : X → Type 0} {accepts : X → ChunkResult M → X → Type 0}
    {crew : Crew L S J P T T M source} {begun : Partition S T source} {x : X}
    {a b c : Coordinator S M T source} {s t : Team S M T source} {k l : Closing} {y z : X} where
  -- it still stands once those that are wanted were started, and more was accepted
  pub stays-under_way : IsUnderWay meaning makes MaySend stops_at is_ready accepts crew begun x a s k y → CanStart meaning makes MaySend stops_at crew b t
      → holding_of b.partition ≡ holding_of a.partition → (knowledge_of b.stream).received ≡ (knowledge_of a.stream).received
      → IsCoordinator crew.chunked.now crew.stream.now c → AcceptsMore is_ready accepts MaySend b k y c l z
      → IsUnderWay meaning makes MaySend stops_at is_ready accepts crew begun x c t l z
  stays-under_way stands may held received is more =
      let same = more.same in
      record {
        may = record {
          pass = is.pass;
          receiver = is.receiver;
          numbers = λ started. same.numbers ∙ may.numbers (subst (λ (w : WorkerCount). w.started ≡ w.wanted) same.worker_count started);
          equipped = equipped-beside may.equipped is.of same.origin may.equipped.sees;
          team = subst (λ w. IsTeam crew.chunked.now crew.stream.now crew.workers w t) (sym same.worker_count) may.team;
          workers = may.workers;
        };
        origin = same.origin ∙ ap (λ h. h.origin) held ∙ stands.origin;
        closed = more.closed (λ was. subst (λ h. HasClosed h.share) (sym held) (stands.closed was));
        ready = more.ready;
        accepted = more.accepted [] x
            (subst (λ xs. HasAccepted (AcceptsEach accepts MaySend) [] x xs (wants_close k) y) (sym received) stands.accepted);
      }
