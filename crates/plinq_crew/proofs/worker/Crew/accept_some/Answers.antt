use Rattle.std.proofs.Common.{rules, refl, sym, ◌∙◌, true≢false}
use Rattle.plinq_crew.proofs.Coordinating.{accepts-nothing, accepts-one}
use Rattle.plinq_crew.proofs.worker.Crew.accept_some.Goals as goal

pub loop-preserved-then-not-wants_close : goal.loop-preserved-then-not-wants_close
loop-preserved-then-not-wants_close g c = record {
  can = tt;
  finite = tt;
  coordinator = c.poll.ensures.coordinator;
  more = accepts-one c.loop.invariant.more c.poll.ensures.same c.poll.ensures.closes c.in-Came.part _ c.in-Came.ensures.carried c.in-Came.ensures.received
      c.accept.ensures.ready (λ _. c.accept.ensures.accepts) (λ is. absurd (true≢false (sym is ∙ search rules)));
}

pub loop-preserved-else-not-wants_close : goal.loop-preserved-else-not-wants_close
loop-preserved-else-not-wants_close g c = record {
  can = tt;
  finite = tt;
  coordinator = c.poll.ensures.coordinator;
  more = accepts-one c.loop.invariant.more c.poll.ensures.same c.poll.ensures.closes c.in-Came.part _ c.in-Came.ensures.carried c.in-Came.ensures.received
      c.loop.invariant.more.ready (λ is. absurd (true≢false (sym (search rules) ∙ is))) (λ _. refl);
}

pub loop-preserved : goal.loop-preserved
loop-preserved g c = record {
  can = tt;
  finite = tt;
  coordinator = c.poll.ensures.coordinator;
  more = rw c.tell_before_sleep.ensures (accepts-nothing c.loop.invariant.more c.poll.ensures.same c.poll.ensures.closes c.in-Nothing.ensures.received);
}

pub returns-in-Over-clause-more : goal.returns-in-Over-clause-more
returns-in-Over-clause-more g c = accepts-nothing c.loop.invariant.more c.poll.ensures.same c.poll.ensures.closes c.in-Over.ensures.received
