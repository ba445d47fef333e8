-- What comes item by item goes to the sink in batches.
use Rattle.plinq_stopping.specs.Asking.{WasLetBy, WasStoppedBy}
use Rattle.plinq_passing.specs.Ran.{left_trace}
use Rattle.plinq_passing.proofs.Gathering.{gathered-ran, gathered-touches}
use Rattle.plinq_passing.proofs.Reaching.{asked-finished}
use Rattle.plinq_passing.proofs.Touching.{touched-name}
use Rattle.std.proofs.Common.{refl, ◌∙◌}
use Rattle.plinq_passing.proofs.leaving.run_gathered.Goals as goal

pub returns-clause-same : goal.returns-clause-same
returns-clause-same g c =
    c.finish.ensures.same
    ∙ touched-name _ _ (λ s. s.sink.ghost_name) (λ s y t is. is.2) (λ s y code t is. is.2) c.args.gathered.now c.visit_left-outcome.new.by
    c.visit_left-outcome.ensures.touched

pub returns-clause-touched : goal.returns-clause-touched
returns-clause-touched g c =
    gathered-touches g.K.Sink.accepts g.K.Sink.refuses (λ s. s.made.size) (λ s. s.made.held.items) (λ s. s.short) (λ s. s.sink.now) (λ s. s.sink.ghost_name)
    c.args.gathered.now c.visit_left-outcome.new.by c.visit_left-outcome.ensures.touched c.visit_left-outcome.result c.finish.result
    c.finish.new.gathered.sink.now c.finish.ensures.finished

pub returns-clause-ran : goal.returns-clause-ran
returns-clause-ran g c f makes h d means =
    let left = left_trace f h d (g.Src.Source.whole c.args.source) in
    gathered-ran g.K.Sink.accepts g.K.Sink.refuses (λ s. s.made.size) (λ s. s.made.held.items) (λ s. s.short) (λ s. s.sink.now) (λ s. s.sink.ghost_name)
    (WasStoppedBy g.C.Cancel.asks c.args.settings.token) c.args.settings.degree c.args.settings.growth left.items left.ending c.args.gathered.now
    c.visit_left-outcome.new.by c.requires.begins
    c.args.gathered.now.made.size refl c.visit_left-outcome.result (c.visit_left-outcome.ensures.ran f makes h d means) c.finish.result
    c.finish.new.gathered.sink.now c.finish.ensures.finished

pub returns-clause-asked : goal.returns-clause-asked
returns-clause-asked g c =
    asked-finished (WasLetBy g.C.Cancel.asks c.args.settings.token) g.K.Sink.accepts g.K.Sink.refuses _ _ _ _ c.visit_left-outcome.result c.finish.result
    c.finish.new.gathered.sink.now c.finish.ensures.finished c.visit_left-outcome.ensures.asked
