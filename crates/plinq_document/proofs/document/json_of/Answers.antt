use Rattle.std.proofs.Common.{Err, ap, sym, ◌∙◌}
use Rattle.plinq_document.proofs.DocumentText.{json_of-read, json_of-unread}
use Rattle.plinq_document.proofs.document.json_of.Goals as goal

pub returns-in-Ok : goal.returns-in-Ok
returns-in-Ok c = json_of-read _ _ c.in-Ok.ensures.ok.0 c.in-Ok.ensures.ok.1

pub returns-in-Err : goal.returns-in-Err
returns-in-Err c = λ not_memory.
    json_of-unread c.args.bytes.now (c.in-Err.ensures.err (λ m. not_memory (c.refusal.ensures.memory m)))
    ∙ ap Err (sym (c.refusal.ensures.other (λ m. not_memory (c.refusal.ensures.memory m))))
