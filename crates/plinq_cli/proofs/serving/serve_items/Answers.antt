-- the lines of batches are written where the answer gets through, and the line of the ending after them
use Rattle.std.proofs.Common.{Err, IfErr, ap, sym, ◌∙◌, subst}
use Rattle.std.proofs.lemmas.Result.{err_from_is_err_and}
use Rattle.plinq_arguments.specs.declared.command.Command.TheVariants.{Seq}
use Rattle.plinq_cli.specs.ServeFaults.{MayFail}
use Rattle.plinq_cli.proofs.OnOneThread.{answer-failed, last-failed, last-written}
use Rattle.plinq_cli.proofs.serving.serve_items.Goals as goal

pub returns-in_err-ending-clause-written : goal.returns-in_err-ending-clause-written
returns-in_err-ending-clause-written g c =
    answer-failed c.args.plain _ c.args.job c.job.view_is c.requires.items _ _ _ c.from_residual.ensures.0 c.in_err-ending.ensures.lines

pub returns-in_err-ending-clause-faults : goal.returns-in_err-ending-clause-faults
returns-in_err-ending-clause-faults g c =
    let p = err_from_is_err_and c.from_residual.result c.from_residual.ensures.1 in
    subst (λ r. IfErr r (MayFail Seq)) (sym (p.1 ∙ ap Err p.2)) c.in_err-ending.ensures.faults

pub returns-in_err-write_last-clause-written : goal.returns-in_err-write_last-clause-written
returns-in_err-write_last-clause-written g c =
    last-failed c.args.plain _ c.args.job c.job.view_is c.requires.items _ _ _ _ c.in_ok-ending.ensures.lines c.in_ok-ending.ensures.ending _
    c.from_residual-in_err-write_last.ensures.0 c.in_err-write_last.ensures

pub returns-clause-written : goal.returns-clause-written
returns-clause-written g c =
    last-written c.args.plain _ c.args.job c.job.view_is c.requires.items _ _ _ _ c.in_ok-ending.ensures.lines c.in_ok-ending.ensures.ending
    c.in_ok-write_last.ensures
