use Rattle.plinq_run.proofs.After.{stops-after}
use Rattle.plinq_run.proofs.laws.cancel_after_stops_at_its_number.Goals as goal

pub returns : goal.returns
returns g c = λ option u d d' result start small. stops-after g.K.Sink.accepts g.K.Sink.refuses option u d d' start small result
