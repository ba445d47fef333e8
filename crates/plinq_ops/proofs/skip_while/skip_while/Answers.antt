use Rattle.std.proofs.Common.{◌∙◌, ap, sym, length, ◌==◌}
use Rattle.plinq_source.specs.declared.ending.Ending.TheVariants.{Fault}
use Rattle.plinq_source.specs.Trace.{ended_trace, open_trace}
use Rattle.plinq_ops.proofs.SkippingWhile.{skipped-faulted, skipped-stopped}
use Rattle.plinq_ops.proofs.skip_while.skip_while.Goals as goal

pub returns-in-Some : goal.returns-in-Some
returns-in-Some g c =
    let skips = skipped-faulted _ c.args.block.now.items _ c.in-Some.code _ (rw c.as_slice.ensures.value at c.count_passing-len.ensures.passing) c.in-Some.is in
    record {
      skipped = ap (λ xs. ended_trace xs (Fault c.in-Some.code)) c.clear.ensures.items ∙ sym skips.0;
      all = sym skips.1;
    }

pub returns : goal.returns
returns g c =
    let skips =
    skipped-stopped _ c.args.block.now.items _ _ (rw c.as_slice.ensures.value at c.count_passing-len.ensures.within)
    (rw c.as_slice.ensures.value at c.count_passing-len.ensures.passing) c.in_default.is in
    record {
      skipped = ap open_trace c.skip.ensures.passed ∙ sym skips.0;
      all = ap (λ n. c.count_passing-len.result.0 == n) (c.len.ensures ∙ sym c.as_slice.ensures.len ∙ ap length c.as_slice.ensures.value) ∙ sym skips.1;
    }
