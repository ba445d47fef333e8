-- While some are left the source is asked; after them it isn't.
use Rattle.std.proofs.Common.{rules, ◌≡◌, ◌≢◌, ◌∙◌, ◌+◌, ap, sym}
use Rattle.plinq_source.proofs.Steps.{at_end, at_refusal}
use Rattle.plinq_passing.specs.inner.Limits.{limited}
use Rattle.plinq_passing.proofs.FirstOnes.{step-limited, step-none}
use Rattle.plinq_passing.proofs.limited.LimitedSource.next.Goals as goal

pub returns-then-self-eq0-clause-step : goal.returns-then-self-eq0-clause-step
returns-then-self-eq0-clause-step g c =
    let s = c.args.self.now in
    let none : s.left ≡ 0 = search rules in
    sym (step-none (g.S.Source.whole s.source) (g.S.Source.given s.source) s.left (g.met.S.Source.within s.source) none)

pub returns-in-Item-clause-step : goal.returns-in-Item-clause-step
returns-in-Item-clause-step g c =
    let s = c.args.self.now in
    let some : s.left ≢ 0 = search rules in
    sym c.in-Item.is ∙ c.next.ensures.step
    ∙ sym (step-limited (g.S.Source.whole s.source) (g.S.Source.given s.source) s.left (g.met.S.Source.within s.source) some)

pub returns-in-End-clause-step : goal.returns-in-End-clause-step
returns-in-End-clause-step g c =
    let s = c.args.self.now in
    let some : s.left ≢ 0 = search rules in
    sym c.in-End.is ∙ c.next.ensures.step
    ∙ sym (step-limited (g.S.Source.whole s.source) (g.S.Source.given s.source) s.left (g.met.S.Source.within s.source) some)

pub returns-in-End-clause-same : goal.returns-in-End-clause-same
returns-in-End-clause-same g c =
    let s = c.args.self.now in
    let t = g.S.Source.whole s.source in
    let at = at_end t (g.S.Source.given s.source) (g.met.S.Source.ends s.source) (g.met.S.Source.within s.source)
    (sym c.next.ensures.step ∙ c.in-End.is) in
    ap (λ n. limited (n + s.left) (g.S.Source.whole c.next.new.self)) (c.next.ensures.moved ∙ at.moved)
    ∙ ap (limited (g.S.Source.given s.source + s.left)) c.next.ensures.same

pub returns-in-Refused-clause-step : goal.returns-in-Refused-clause-step
returns-in-Refused-clause-step g c =
    let s = c.args.self.now in
    let some : s.left ≢ 0 = search rules in
    sym c.in-Refused.is ∙ c.next.ensures.step
    ∙ sym (step-limited (g.S.Source.whole s.source) (g.S.Source.given s.source) s.left (g.met.S.Source.within s.source) some)

pub returns-in-Refused-clause-same : goal.returns-in-Refused-clause-same
returns-in-Refused-clause-same g c =
    let s = c.args.self.now in
    let t = g.S.Source.whole s.source in
    let at = at_refusal t (g.S.Source.given s.source) c.in-Refused.code (g.met.S.Source.within s.source)
    (sym c.next.ensures.step ∙ c.in-Refused.is) in
    ap (λ n. limited (n + s.left) (g.S.Source.whole c.next.new.self)) (c.next.ensures.moved ∙ at.moved)
    ∙ ap (limited (g.S.Source.given s.source + s.left)) c.next.ensures.same
