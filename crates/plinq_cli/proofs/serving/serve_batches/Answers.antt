-- the lines of batches are written where the run gets through, and the line of the ending after them
use Rattle.std.proofs.Common.{rules, ◌≡◌, Err, IfErr, ap, sym, ◌∙◌, subst}
use Rattle.std.proofs.lemmas.Result.{err_from_is_err_and}
use Rattle.plinq_arguments.specs.declared.command.Command.TheVariants.{Run}
use Rattle.plinq_cli.specs.ServeFaults.{MayFail}
use Rattle.plinq_cli.specs.Served.{Delivers, LeavesWholeLines}
use Rattle.plinq_cli.proofs.RunLines.{run-failed, run-failed-so, run-failed-whole, ending-failed, ending-written, ending-in_time}
use Rattle.plinq_cli.proofs.serving.serve_batches.Goals as goal

pub returns-in_err-ending-clause-written : goal.returns-in_err-ending-clause-written
returns-in_err-ending-clause-written g c =
    let same : c.writer-1.given.0 ≡ c.run_lines-ended.result.1.now = search rules in
    rw same (run-failed c.args.plain _ c.args.job _ _ _ c.in_err-ending.field-0.0 c.job.view_is c.requires.items c.from_residual.ensures.0
    (subst (Delivers _ _ _ _ _) c.in_err-ending.was c.run_lines-ended.ensures.delivers))

pub returns-in_err-ending-clause-whole : goal.returns-in_err-ending-clause-whole
returns-in_err-ending-clause-whole g c =
    let same : c.writer-1.given.0 ≡ c.run_lines-ended.result.1.now = search rules in
    let p = err_from_is_err_and c.from_residual.result c.from_residual.ensures.1 in
    rw same (run-failed-whole c.args.plain _ c.args.job _ _ _ c.in_err-ending.field-0.0 c.job.view_is c.requires.items (p.1 ∙ ap Err p.2)
    (subst (Delivers _ _ _ _ _) c.in_err-ending.was c.run_lines-ended.ensures.delivers))

pub returns-in_err-ending-clause-faults : goal.returns-in_err-ending-clause-faults
returns-in_err-ending-clause-faults g c =
    let p = err_from_is_err_and c.from_residual.result c.from_residual.ensures.1 in
    subst (λ r. IfErr r (MayFail Run)) (sym (p.1 ∙ ap Err p.2)) (run-failed-so _ _ _ _ _ _
    (subst (Delivers _ _ _ _ _) c.in_err-ending.was c.run_lines-ended.ensures.delivers))

pub returns-in_err-write_last-clause-written : goal.returns-in_err-write_last-clause-written
returns-in_err-write_last-clause-written g c =
    let same : c.writer-1.given.0 ≡ c.run_lines-ended.result.1.now = search rules in
    ending-failed c.args.plain _ c.args.job _ _ _ _ _ c.job.view_is c.requires.items c.from_residual-in_err-write_last.ensures.0
    (subst (Delivers _ _ _ _ _) c.in_ok-ending.was c.run_lines-ended.ensures.delivers) (rw same at c.in_err-write_last.ensures)

pub returns-in_err-write_last-clause-whole : goal.returns-in_err-write_last-clause-whole
returns-in_err-write_last-clause-whole g c =
    let p = err_from_is_err_and c.from_residual-in_err-write_last.result c.from_residual-in_err-write_last.ensures.1 in
    subst (LeavesWholeLines c.args.plain c.args.job _ _) (sym (p.1 ∙ ap Err p.2)) tt

pub returns-clause-written : goal.returns-clause-written
returns-clause-written g c =
    let same : c.writer-1.given.0 ≡ c.run_lines-ended.result.1.now = search rules in
    ending-written c.args.plain _ c.args.job _ _ _ _ c.job.view_is c.requires.items
    (subst (Delivers _ _ _ _ _) c.in_ok-ending.was c.run_lines-ended.ensures.delivers) (rw same at c.in_ok-write_last.ensures)

pub returns-clause-whole : goal.returns-clause-whole
returns-clause-whole g c =
    let same : c.writer-1.given.0 ≡ c.run_lines-ended.result.1.now = search rules in
    ending-in_time c.args.plain _ c.args.job _ _ _ _ c.job.view_is c.requires.items
    (subst (Delivers _ _ _ _ _) c.in_ok-ending.was c.run_lines-ended.ensures.delivers) (rw same at c.in_ok-write_last.ensures)
