use Rattle.plinq_rounds.proofs.PassLaws.{passes-flushed}
use Rattle.plinq_rounds.proofs.stream.answer_whole.Goals as goal

pub returns-clause-passes : goal.returns-clause-passes
returns-clause-passes g c =
    passes-flushed c.args.steps.now c.answer_round-outcome.new.steps _ _ _ _ c.answer_round-outcome.result c.flushed.result
    c.answer_round-outcome.ensures.passes c.flushed.ensures.kept c.flushed.ensures.same
