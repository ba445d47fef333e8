-- What is lent is given what is left, and the same is lent.
use Rattle.plinq_stopping.specs.Asking.{WasStoppedBy}
use Rattle.plinq_passing.specs.Ran.{left_trace}
use Rattle.plinq_passing.proofs.Lending.{lent-ran, lent-touched}
use Rattle.plinq_passing.proofs.Touching.{touched-name}
use Rattle.plinq_passing.proofs.leaving.visit_lent.Goals as goal

pub returns-clause-same : goal.returns-clause-same
returns-clause-same g c =
    touched-name _ _ (λ s. s.ghost_name) (λ s y t is. is.1) (λ s y code t is. is.1) c.args.passed.now.to c.pass_by_threads.new.passed.to
    c.pass_by_threads.ensures.touched

pub returns-clause-touched : goal.returns-clause-touched
returns-clause-touched g c =
    lent-touched g.V.Visits.takes g.V.Visits.refuses (λ s. s.now) (λ s. s.ghost_name) c.args.passed.now.to c.pass_by_threads.new.passed.to
    c.pass_by_threads.ensures.touched

pub returns-clause-ran : goal.returns-clause-ran
returns-clause-ran g c f makes h d means =
    let left = left_trace f h d (g.Src.Source.whole c.args.source) in
    lent-ran g.V.Visits.takes g.V.Visits.refuses (λ s. s.now) (λ s. s.ghost_name)
    (WasStoppedBy g.C.Cancel.asks c.args.settings.token) c.args.settings.degree c.args.settings.growth left.items left.ending
    c.args.passed.now.to c.pass_by_threads.result c.pass_by_threads.new.passed.to (c.pass_by_threads.ensures.passed f makes h d means)
