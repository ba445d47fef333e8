use Rattle.std.proofs.Common.{refl}
use Rattle.std.proofs.lemmas.Result.{IfOk-weaker}
use Rattle.plinq_arguments.specs.Arguments.{subcommand_app}
use Rattle.plinq_arguments.proofs.Asked.{added}
use Rattle.plinq_arguments.proofs.reading.with_subcommand.Goals as goal

pub returns : goal.returns
returns c =
    IfOk-weaker c.subcommand-2.result _ _
    (λ app h. added _ _ _ _ (subcommand_app c.args.workers c.args.merge_words c.args.name.now) c.in_ok-sub.ensures h refl)
    c.subcommand-2.ensures
