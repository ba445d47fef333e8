-- A repeat's item is its value.
use Rattle.std.proofs.Common.{◌≡◌, w64, to_z, of_z, arith, sym, ap, ◌∙◌}
use Rattle.std.proofs.lemmas.Int.{ints}
use Rattle.plinq_source.specs.declared.step.Step.TheVariants.{Item}
use Rattle.plinq_source.proofs.Walks.{step_at-replicate}
use Rattle.plinq_source.proofs.repeat.RepeatSourceSource.next.Goals as goal

pub returns-then-self-clause-step : goal.returns-then-self-clause-step
returns-then-self-clause-step c =
    let s = c.args.self.now in
    let same : to_z w64 (of_z w64 s.value) ≡ s.value = omega (arith, ints) in
    ap Item same ∙ sym (step_at-replicate s.count s.value s.next c.if-self.true)
