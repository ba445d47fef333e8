-- what the sink took is written, and the writer comes back as it is
use Rattle.std.proofs.Common.{◌∙◌}
use Rattle.plinq_cli.proofs.RunLines.{told-delivered}
use Rattle.plinq_cli.proofs.serving.run_lines.Goals as goal

pub returns-clause-delivers : goal.returns-clause-delivers
returns-clause-delivers g c =
    (told-delivered c.args.query.now _ c.args.cancel_after _ _ _ _ c.new-sink.ensures.bytes c.into_writer.ensures.bytes _ _ _ c.tell.ensures
    c.run_until-reported.ensures).0

pub returns-clause-same : goal.returns-clause-same
returns-clause-same g c =
    let told =
    told-delivered c.args.query.now _ c.args.cancel_after _ _ _ _ c.new-sink.ensures.bytes c.into_writer.ensures.bytes _ _ _ c.tell.ensures
    c.run_until-reported.ensures in
    c.into_writer.ensures.writer ∙ told.1 ∙ c.new-sink.ensures.writer
