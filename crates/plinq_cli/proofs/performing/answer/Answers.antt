use Rattle.std.proofs.Common.{Err, ap, sym, ◌∙◌, subst}
use Rattle.std.proofs.lemmas.Result.{err_from_is_err_and}
use Rattle.plinq_cli.specs.Performed.{Answers}
use Rattle.plinq_cli.proofs.Flushed.{failed, refused, served, unread}
use Rattle.plinq_cli.proofs.performing.answer.Goals as goal

pub returns-in_err-bytes : goal.returns-in_err-bytes
returns-in_err-bytes g c =
    let p = err_from_is_err_and c.from_residual.result c.from_residual.ensures.1 in
    let told = g.I.Read.remaining c.args.reader.now in
    let out = g.W.Write.contents c.args.out.now in
    subst (Answers c.args.arguments told out out) (sym (p.1 ∙ ap Err p.2))
    (unread c.args.arguments told out c.in_err-bytes.field-0.0 (λ e. c.in_err-bytes.ensures.many (ap Err e)))

pub returns-in_err-job : goal.returns-in_err-job
returns-in_err-job g c =
    let p = err_from_is_err_and c.from_residual-in_err-job.result c.from_residual-in_err-job.ensures.1 in
    let told = g.I.Read.remaining c.args.reader.now in
    let out = g.W.Write.contents c.args.out.now in
    subst (Answers c.args.arguments told out out) (sym (p.1 ∙ ap Err p.2)) (
      c.as_slice.result.now,
      rw c.as_slice.ensures.value c.in_ok-bytes.ensures.bytes,
      c.settings_here-settings.result,
      c.settings_here-settings.ensures,
      refused c.args.arguments.plain c.args.arguments.command _ out c.in_err-job.field-0.0 c.in_err-job.ensures,
    )

pub returns-in_err-serve_as : goal.returns-in_err-serve_as
returns-in_err-serve_as g c =
    let p = err_from_is_err_and c.from_residual-in_err-serve_as.result c.from_residual-in_err-serve_as.ensures.1 in
    let told = g.I.Read.remaining c.args.reader.now in
    let out = g.W.Write.contents c.args.out.now in
    let after = g.W.Write.contents c.serve_as.new.writer in
    subst (Answers c.args.arguments told out after) (sym (p.1 ∙ ap Err p.2)) (
      c.as_slice.result.now,
      rw c.as_slice.ensures.value c.in_ok-bytes.ensures.bytes,
      c.settings_here-settings.result,
      c.settings_here-settings.ensures,
      failed c.args.arguments.plain c.args.arguments.command out after c.in_err-serve_as.field-0.0 c.in_ok-job.ensures c.in_err-serve_as.ensures.written,
    )

pub returns : goal.returns
returns g c = (
  c.as_slice.result.now,
  rw c.as_slice.ensures.value c.in_ok-bytes.ensures.bytes,
  c.settings_here-settings.result,
  c.settings_here-settings.ensures,
  served c.args.arguments.plain c.args.arguments.command (g.W.Write.contents c.args.out.now) (g.W.Write.contents c.serve_as.new.writer)
      c.in_ok-job.ensures c.in_ok-serve_as.ensures.written,
)
