use Rattle.std.proofs.Common.{rules, ◌≡◌, ◌∙◌, sym, Some, ap}
use Rattle.std.specs.Prelude.{option_and_then}
use Rattle.std.specs.Str.Parse.{ParsesUnsigned, ExplainsUnsignedError, HasUnsignedDigitsIfOk}
use Rattle.plinq_arguments.proofs.Asked.{cancel_read, few_batches, few-some, few-none}
use Rattle.plinq_arguments.proofs.reading.cancel_of.Goals as goal

pub returns-in_err-most : goal.returns-in_err-most
returns-in_err-most c =
    let nothing : c.from_residual.result ≡ option_and_then few_batches c.get_one.result = search rules in
    nothing
    ∙ sym (cancel_read c.args.options.now _ (λ bs r. ParsesUnsigned 64 10 bs r × ExplainsUnsignedError 10 bs r × HasUnsignedDigitsIfOk bs r) c.get_one.result
    (λ t x g. g.0) c.get_one.ensures.none c.get_one.ensures.value)

pub returns-then-most-gt-MOST_BATCHES : goal.returns-then-most-gt-MOST_BATCHES
returns-then-most-gt-MOST_BATCHES c =
    let is : c.get_one.result ≡ Some c.in_ok-most.most = search rules in
    sym (cancel_read c.args.options.now _ (λ bs r. ParsesUnsigned 64 10 bs r × ExplainsUnsignedError 10 bs r × HasUnsignedDigitsIfOk bs r) c.get_one.result
    (λ t x g. g.0) c.get_one.ensures.none c.get_one.ensures.value
    ∙ (ap (option_and_then few_batches) is ∙ few-none c.in_ok-most.most c.if-most-gt-MOST_BATCHES.true))

pub returns : goal.returns
returns c =
    let is : c.get_one.result ≡ Some c.in_ok-most.most = search rules in
    sym (cancel_read c.args.options.now _ (λ bs r. ParsesUnsigned 64 10 bs r × ExplainsUnsignedError 10 bs r × HasUnsignedDigitsIfOk bs r) c.get_one.result
    (λ t x g. g.0) c.get_one.ensures.none c.get_one.ensures.value
    ∙ (ap (option_and_then few_batches) is ∙ few-some c.in_ok-most.most c.if-most-gt-MOST_BATCHES.false))
