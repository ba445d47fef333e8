use Rattle.std.proofs.Common.{rules, ◌≡◌, ◌∙◌, ap, ap₂}
use Rattle.std.proofs.lemmas.Result.{IfOk-weaker}
use Rattle.clap.specs.Words.{App, app_of, with_rule}
use Rattle.plinq_arguments.specs.Arguments.{seq_app}
use Rattle.plinq_arguments.proofs.Asked.{third-false}
use Rattle.plinq_arguments.proofs.reading.seq_command.Goals as goal

pub returns : goal.returns
returns c =
    IfOk-weaker c.arg.result _ _
    (λ s h.
    let is : app_of s ≡ seq_app c.args.workers c.args.merge_words = h.shape (search rules) ∙ ap₂ with_rule c.in_ok-seq.ensures.1 c.plain_option.ensures.rule in
    (λ old new adds. adds.shape (third-false _ _ _ _ (ap (λ (a : App). a.top.is_plain) is)), is))
    c.arg.ensures
