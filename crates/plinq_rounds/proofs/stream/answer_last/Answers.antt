use Rattle.plinq_rounds.proofs.PassLaws.{passes-flushed}
use Rattle.plinq_rounds.proofs.stream.answer_last.Goals as goal

pub returns : goal.returns
returns g c =
    passes-flushed c.args.steps.now c.answer_here-outcome.new.steps _ _ _ _ c.answer_here-outcome.result c.flushed.result
    c.answer_here-outcome.ensures.passes c.flushed.ensures.kept c.flushed.ensures.same
