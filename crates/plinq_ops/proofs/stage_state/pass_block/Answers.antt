use Rattle.std.proofs.Common.{◌∙◌, sym, ap}
use Rattle.std.specs.Option.{option_or}
use Rattle.plinq_source.proofs.Followed.{trace_of}
use Rattle.plinq_ops.specs.Operator.{state_stage}
use Rattle.plinq_ops.proofs.Open.{apply-told}
use Rattle.plinq_ops.proofs.stage_state.pass_block.Goals as goal

-- none of the operators waits for the end
pub returns-clause-passed : goal.returns-clause-passed
returns-clause-passed g c =
    ap (trace_of c.pass_items.new.block.items) c.or.ensures
    ∙ ap (λ t. trace_of t.items (option_or t.ending c.args.ending)) c.pass_items.ensures.passed
    ∙ sym (apply-told (state_stage g.L.Lambda.meaning c.args.op.now) c.args.block.now.items c.args.ending)
