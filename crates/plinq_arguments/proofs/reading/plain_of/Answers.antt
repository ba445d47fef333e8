use Rattle.std.proofs.Common.{rules, ◌≡◌, ◌∙◌, Some, None}
use Rattle.plinq_arguments.proofs.Asked.{plain_read}
use Rattle.plinq_arguments.proofs.reading.plain_of.Goals as goal

pub returns-in_err-get_str : goal.returns-in_err-get_str
returns-in_err-get_str c =
    let none : c.from_residual.result ≡ None = search rules in
    none ∙ plain_read c.args.options.now None (search rules)

pub returns : goal.returns
returns c = c.flag_of.ensures ∙ plain_read c.args.options.now (Some c.in_ok-get_str.field-0.now) (search rules)
