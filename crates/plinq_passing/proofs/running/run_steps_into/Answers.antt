-- The steps make one thing of each item, so whatever function they may be is the one whose items were delivered.
use Rattle.std.specs.Prelude.{ℕ, Option, Result, Ok}
use Rattle.std.proofs.Common.{◌≡◌, ap, sym, subst}
use Rattle.plinq_closures.specs.inner.Only.{answer_in, given-answer}
use Rattle.plinq_passing.proofs.Delivering.{asked-told, ran-steps}
use Rattle.plinq_passing.proofs.running.run_steps_into.Goals as goal

pub returns-clause-ran : goal.returns-clause-ran
returns-clause-ran g c f makes =
    let made = c.of.result in
    let same : (x : g.row.S-From.Denot) → ◌≡◌ {A = Result (Option g.row.S-To.Denot) ℕ} (Ok (answer_in (made.one x))) (Ok (f x)) =
    λ x. ap Ok (sym (given-answer (made.one x) (f x) (subst (λ s. g.S.Steps.makes s x (f x)) (sym c.of.ensures) (makes x)))) in
    rw c.told_ran.ensures
    (ran-steps _ f same g.K.Sink.accepts g.K.Sink.refuses g.C.Cancel.asks c.args.settings.token c.run_of.new.token c.args.settings.degree c.args.settings.growth
    _ c.args.settings.merge c.in_ok-plan.ensures.planned.2 (g.Src.Source.whole c.args.source) c.args.sink.now c.run_of.result c.run_of.new.sink
    c.run_of.ensures)

pub returns-clause-asked : goal.returns-clause-asked
returns-clause-asked g c =
    rw c.told_ran.ensures
    (asked-told g.K.Sink.accepts g.K.Sink.refuses g.C.Cancel.asks (λ x. Ok (answer_in (c.of.result.one x))) _
    (g.Src.Source.whole c.args.source) c.args.settings.token c.run_of.new.token
    c.args.sink.now c.run_of.result c.run_of.new.sink c.run_of.ensures)
