use Rattle.std.proofs.Common.{rules, ◌≡◌, ◌∙◌, ap₂}
use Rattle.std.proofs.lemmas.Result.{IfOk-weaker}
use Rattle.clap.specs.Words.{app_of, new_app, with_rule}
use Rattle.plinq_arguments.specs.Arguments.{workers_rule}
use Rattle.plinq_arguments.proofs.reading.subcommand.Goals as goal

pub returns : goal.returns
returns c =
    let about_is : app_of c.after_help.result ≡ new_app c.args.name.now = search rules in
    let first_is : app_of c.in_ok-arg.field-0 ≡ with_rule (new_app c.args.name.now) (workers_rule c.args.workers) =
    c.in_ok-arg.ensures.shape (search rules) ∙ ap₂ with_rule about_is c.workers_option.ensures.rule in
    IfOk-weaker c.arg-2.result _ _
    (λ s h. (λ old new adds. adds.shape (search rules), h.shape (search rules) ∙ ap₂ with_rule first_is c.merge_option.ensures.rule))
    c.arg-2.ensures
