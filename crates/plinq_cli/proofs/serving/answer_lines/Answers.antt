-- what the sink took is written, and the writer comes back as it is
use Rattle.std.proofs.Common.{◌∙◌}
use Rattle.plinq_cli.proofs.OnOneThread.{told-answer}
use Rattle.plinq_cli.proofs.serving.answer_lines.Goals as goal

pub returns-clause-writes : goal.returns-clause-writes
returns-clause-writes g c =
    let delivered = c.deliver_in_blocks-delivered.ensures in
    (told-answer c.args.query.now _ _ _ _ _ c.new-sink.ensures.bytes c.into_writer.ensures.bytes _ _ _ c.tell_answer.ensures delivered.ending
    delivered.delivered).0

pub returns-clause-same : goal.returns-clause-same
returns-clause-same g c =
    let delivered = c.deliver_in_blocks-delivered.ensures in
    let told =
    told-answer c.args.query.now _ _ _ _ _ c.new-sink.ensures.bytes c.into_writer.ensures.bytes _ _ _ c.tell_answer.ensures delivered.ending
    delivered.delivered in
    c.into_writer.ensures.writer ∙ told.1 ∙ c.new-sink.ensures.writer
