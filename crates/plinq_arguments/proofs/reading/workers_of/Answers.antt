use Rattle.std.proofs.Common.{rules, ◌≡◌, ◌∙◌, sym}
use Rattle.std.specs.Prelude.{option_and_then}
use Rattle.std.specs.Str.Parse.{ParsesUnsigned, ExplainsUnsignedError, HasUnsignedDigitsIfOk}
use Rattle.plinq_settings.specs.Degrees.{degree_of}
use Rattle.plinq_arguments.proofs.Asked.{workers_read}
use Rattle.plinq_arguments.proofs.reading.workers_of.Goals as goal

pub returns-in_err-get_one : goal.returns-in_err-get_one
returns-in_err-get_one c =
    let nothing : c.from_residual.result ≡ option_and_then degree_of c.get_one.result = search rules in
    nothing
    ∙ sym (workers_read c.args.options.now _ (λ bs r. ParsesUnsigned 64 10 bs r × ExplainsUnsignedError 10 bs r × HasUnsignedDigitsIfOk bs r)
    c.get_one.result (λ t x g. g.0) c.get_one.ensures.none c.get_one.ensures.value)

pub returns : goal.returns
returns c =
    let same : c.new.result ≡ option_and_then degree_of c.get_one.result = search rules in
    same
    ∙ sym (workers_read c.args.options.now _ (λ bs r. ParsesUnsigned 64 10 bs r × ExplainsUnsignedError 10 bs r × HasUnsignedDigitsIfOk bs r)
    c.get_one.result (λ t x g. g.0) c.get_one.ensures.none c.get_one.ensures.value)
