use Rattle.std.proofs.Common.{rules, ◌≡◌, false, subst}
use Rattle.plinq_stopping.specs.inner.Watching.{let-first, lets-none}
use Rattle.plinq_passing.proofs.passing.ask_alone.Goals as goal

pub returns-clause-asked : goal.returns-clause-asked
returns-clause-asked g c =
    let asks = g.C.Cancel.asks in
    let lets : c.cancelled.result ≡ false = search rules in
    let token = c.args.settings.token in
    let after = c.cancelled.new.self in
    (after, let-first asks token 0 after after (subst (λ b. asks token 0 b after) lets c.cancelled.ensures) (lets-none asks after))
