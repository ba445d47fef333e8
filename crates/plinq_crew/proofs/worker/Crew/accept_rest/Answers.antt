use Rattle.std.proofs.Common.{rules, refl, sym, ap, ◌∙◌, true≢false}
use Rattle.plinq_crew.proofs.Polls.{took-more}
use Rattle.plinq_crew.proofs.worker.Crew.accept_rest.Goals as goal

pub loop-preserved-then-not-wants_close : goal.loop-preserved-then-not-wants_close
loop-preserved-then-not-wants_close g c = record {
  can = tt;
  finite = tt;
  stream = search rules;
  receives = search rules;
  sent = search rules;
  numbers = search rules;
  ready = c.accept.ensures.ready;
  accepted = λ before start h.
      took-more (c.loop.invariant.accepted before start h) c.in-Some-receive.sent (ap (λ k. k.received) c.in-Some-receive.ensures.received) refl
      (λ _. (c.in-Some-receive.ensures.carried, c.accept.ensures.accepts)) (λ is. absurd (true≢false (sym is ∙ search rules)));
}

pub loop-preserved : goal.loop-preserved
loop-preserved g c = record {
  can = tt;
  finite = tt;
  stream = search rules;
  receives = search rules;
  sent = search rules;
  numbers = search rules;
  ready = c.loop.invariant.ready;
  accepted = λ before start h.
      took-more (c.loop.invariant.accepted before start h) c.in-Some-receive.sent (ap (λ k. k.received) c.in-Some-receive.ensures.received) refl
      (λ is. absurd (true≢false (sym (search rules) ∙ is))) (λ _. refl);
}
