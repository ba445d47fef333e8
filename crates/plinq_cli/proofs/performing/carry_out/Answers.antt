use Rattle.plinq_cli.proofs.Flushed.{flushed}
use Rattle.plinq_cli.proofs.performing.carry_out.Goals as goal

pub returns-clause-written : goal.returns-clause-written
returns-clause-written g c =
    let answered = flushed c.args.arguments _ _ _ _ _ _ c.answer-answered.ensures c.flush-flushed.ensures.bytes c.flush-flushed.ensures.answer in
    (c.flush-flushed.result, answered, c.report.ensures.status)
