use Rattle.std.proofs.Common.{rules, ◌≡◌, ◌≤◌, [], All, true≢false, length, refl, sym, ap, ◌∙◌, subst, arith}
use Rattle.plinq_partition.specs.Partitions.{all_shares, holding_of}
use Rattle.plinq_stream.specs.Passes.{knowledge_of}
use Rattle.plinq_stream.specs.Streams.{has}
use Rattle.plinq_stream.proofs.Under.{each-received}
use Rattle.plinq_crew.specs.inner.Closing.{wants_close}
use Rattle.plinq_crew.specs.Polls.{HasAccepted}
use Rattle.plinq_crew.specs.Conducting.{AcceptsEach}
use Rattle.plinq_crew.specs.declared.worker_count.WorkerCount.{WorkerCount}
use Rattle.plinq_crew.specs.Working.{HasNumbersFrom, IsOfOne}
use Rattle.plinq_crew.proofs.Coordinating.{IsUnderWay, stays-under_way}
use Rattle.plinq_crew.proofs.SentShares.{none-before}
use Rattle.plinq_crew.proofs.Working.{answered-same}
use Rattle.plinq_crew.proofs.worker.Crew.conduct_within.Goals as goal
use Rattle.plinq_crew.proofs.worker.Crew.conduct_within.Goals.{in-None, in-Some+then-not-accept_some}

pub loop-init : goal.loop-init
loop-init g c =
    let none : 0 ≡ length c.in-Ok.handles.items = search rules in
    let all = ap (λ p. (knowledge_of p).numbers) c.new-coordinator.ensures.stream ∙ ap (λ k. k.numbers) c.requires.ready.knows in
    record {
      can = search rules;
      finite = search rules;
      under_way = record {
        may = record {
          pass = search rules;
          receiver = search rules;
          numbers = λ _. subst (λ n. HasNumbersFrom n (knowledge_of c.new-coordinator.result.stream)) none all;
          equipped = search rules;
          team = search rules;
          workers = c.requires.ready.workers;
        };
        origin = ap (λ p. (holding_of p).origin) c.new-coordinator.ensures.partition;
        closed = λ is. absurd (true≢false (sym is));
        ready = c.requires.consumer;
        accepted = record {
          taken = [];
          left = [];
          came = ap (λ p. (knowledge_of p).received) c.new-coordinator.ensures.stream ∙ ap (λ k. k.received) c.requires.ready.knows;
          steps = refl;
          all = λ _. refl;
        };
      };
    }

pub loop-preserved : goal.loop-preserved
loop-preserved g c =
    let began = c.start_wanted.ensures in
    let accepted = c.accept_some.ensures in
    record {
      can = tt;
      finite = tt;
      under_way = stays-under_way c.loop.invariant.under_way began.may began.same began.received accepted.coordinator accepted.more;
    }

pub returns : goal.returns
returns g c =
    let Step = AcceptsEach g.X.Consumer.accepts g.J.RunSpec.is_result in
    let crew = c.args.self.now in
    let x = c.args.consumer.now in
    let end = c.match-next in
    let ended : (1 ≤ end.coordinator.worker_count.wanted)
    × IsUnderWay g.L.Lambda.meaning g.P.Task.makes g.J.RunSpec.is_result g.J.RunSpec.stops_at g.X.Consumer.is_ready g.X.Consumer.accepts crew
    c.args.context.partition x end.coordinator end.team end.closing end.consumer =
    elim end.branch [
      | in-None w ↦ absurd (search rules)
      | in-Some+then-not-accept_some w ↦
          let began = w.start_wanted.ensures in
          let accepted = w.accept_some.ensures in
          rw (w.coordinator-is, w.team-is, w.closing-is, w.consumer-is) (
            subst (λ (n : WorkerCount). 1 ≤ n.wanted) (sym accepted.more.same.worker_count) began.wanted,
            stays-under_way c.loop.invariant.under_way began.may began.same began.received accepted.coordinator accepted.more,
          )
    ] in
    let stood = ended.1 in
    let partitions = c.join_all-partitions.result in
    let joined = c.join_all-partitions.ensures in
    let rest = c.accept_rest.ensures in
    let last = c.close_at_last.ensures.closes in
    record {
      some = omega (arith, joined.count);
      of = joined.of;
      origin = joined.origin ∙ last.same.origin ∙ stood.origin;
      started = omega (arith, joined.count, stood.may.team.started, ap (λ (n : WorkerCount). n.started) last.same.worker_count);
      wanted = subst (λ (n : WorkerCount). (1 ≤ n.wanted) × (n.wanted ≤ crew.workers)) (sym last.same.worker_count) (ended.0, stood.may.team.within);
      pass = c.accept_rest.new.pass;
      of_stream = rest.of;
      all = rest.all;
      answered = answered-same (knowledge_of c.join_all-partitions.new.pass) (knowledge_of c.accept_rest.new.pass) c.join_all-partitions.new.worker_faults _
          rest.sent rest.numbers joined.answered;
      each = λ k d less started.
          let handed = last.same.numbers ∙ stood.may.numbers (subst (λ (n : WorkerCount). n.started ≡ n.wanted) last.same.worker_count started) in
          each-received (IsOfOne (all_shares partitions.items)) (knowledge_of c.accept_rest.new.pass) rest.all
          (λ n near. ap (has n) rest.numbers ∙ joined.numbers handed n (omega arith) near)
          (subst (All (λ s. IsOfOne (all_shares partitions.items) s.item)) (sym rest.sent) joined.sent) k d less;
      closed = λ none. joined.closed (last.closed stood.closed (none-before _ _ joined.kept none));
      wants_close = wants_close end.closing;
      accepted = rest.accepted [] x
          (subst (λ xs. HasAccepted Step [] x xs (wants_close end.closing) end.consumer)
          (sym (joined.received ∙ ap (λ p. (knowledge_of p).received) last.stream)) stood.accepted);
    }
