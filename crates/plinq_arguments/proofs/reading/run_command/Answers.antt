use Rattle.std.proofs.Common.{rules, ◌≡◌, ◌∙◌, ap, ap₂}
use Rattle.std.proofs.lemmas.Result.{IfOk-weaker}
use Rattle.clap.specs.Words.{App, app_of, with_rule}
use Rattle.plinq_arguments.specs.Arguments.{plain_rule, run_app, subcommand_app}
use Rattle.plinq_arguments.proofs.Asked.{third-false}
use Rattle.plinq_arguments.proofs.reading.run_command.Goals as goal

pub returns : goal.returns
returns c =
    let flagged : app_of c.in_ok-with_plain.with_plain ≡ with_rule (app_of c.in_ok-run.run') plain_rule =
    c.in_ok-with_plain.ensures.shape (search rules) ∙ ap (with_rule (app_of c.in_ok-run.run')) c.plain_option.ensures.rule in
    let flagged_run = flagged ∙ ap (λ (a : App). with_rule a plain_rule) c.in_ok-run.ensures.1 in
    IfOk-weaker c.arg-2.result _ _
    (λ s h.
    let is : app_of s ≡ run_app c.args.workers c.args.merge_words = h.shape (search rules) ∙ ap₂ with_rule flagged_run c.cancel_after_option.ensures.rule in
    (λ old new adds. adds.shape (third-false _ _ _ _ (ap (λ (a : App). a.top.is_plain) is)), is))
    c.arg-2.ensures
