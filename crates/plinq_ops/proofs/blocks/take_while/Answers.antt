use Rattle.std.proofs.Common.{◌≡◌, ◌∙◌, ◌<◌, ◌≤◌, take, length, ap, sym, arith}
use Rattle.std.proofs.lemmas.List.{length-take-le}
use Rattle.plinq_source.specs.declared.ending.Ending.TheVariants.{End, Fault}
use Rattle.plinq_source.specs.Trace.{ended_trace, open_trace}
use Rattle.plinq_ops.proofs.TakingWhile.{taken-passing}
use Rattle.plinq_ops.proofs.blocks.take_while.Goals as goal

pub returns-in-Some : goal.returns-in-Some
returns-in-Some g c =
    let taken = taken-passing _ c.args.block.now.items _ _ (rw c.as_slice.ensures.value at c.count_passing-len.ensures.passing) in
    ap (λ xs. ended_trace xs (Fault c.in-Some.code)) c.truncate.ensures.items ∙ sym (taken.faulted c.in-Some.code c.in-Some.is)

pub returns-in-None : goal.returns-in-None
returns-in-None g c =
    let taken = taken-passing _ c.args.block.now.items _ _ (rw c.as_slice.ensures.value at c.count_passing-len.ensures.passing) in
    let within : c.count_passing-len.result.0 ≤ length c.args.block.now.items = rw c.as_slice.ensures.value at c.count_passing-len.ensures.within in
    let all : length (take c.count_passing-len.result.0 c.args.block.now.items) ≡ length c.args.block.now.items =
    omega (arith, length-take-le _ _ within, c.if-all_pass.true, c.len.ensures) in
    ap open_trace c.truncate.ensures.items ∙ sym (taken.whole c.in-None.is all)

pub returns-in-None-2 : goal.returns-in-None-2
returns-in-None-2 g c =
    let taken = taken-passing _ c.args.block.now.items _ _ (rw c.as_slice.ensures.value at c.count_passing-len.ensures.passing) in
    let within : c.count_passing-len.result.0 ≤ length c.args.block.now.items = rw c.as_slice.ensures.value at c.count_passing-len.ensures.within in
    let fewer : length (take c.count_passing-len.result.0 c.args.block.now.items) < length c.args.block.now.items =
    omega (arith, length-take-le _ _ within, within, c.if-all_pass.false, c.len.ensures) in
    ap (λ xs. ended_trace xs End) c.truncate.ensures.items ∙ sym (taken.stopped c.in-None.is fewer)
