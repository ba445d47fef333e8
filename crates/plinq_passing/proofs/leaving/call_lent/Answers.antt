-- What is lent is called, and the same is lent.
use Rattle.plinq_passing.specs.Ran.{left_trace}
use Rattle.std.specs.Prelude.{None}
use Rattle.plinq_passing.proofs.Lending.{lent-ran}
use Rattle.plinq_passing.proofs.Touching.{touched-name}
use Rattle.plinq_passing.proofs.leaving.call_lent.Goals as goal

pub returns : goal.returns
returns g c =
    record {
      same = touched-name _ _ (λ s. s.ghost_name) (λ s y t is. is.1) (λ s y code t is. is.1) c.args.passed.now.to c.pass_alone.new.passed.to
          c.pass_alone.ensures.touched;
      calls = λ f makes h d means.
          let left = left_trace f h d (g.Src.Source.whole c.args.source) in
          lent-ran g.V.Visits.takes g.V.Visits.refuses (λ s. s.now) (λ s. s.ghost_name) ⊥ 1 None left.items left.ending c.args.passed.now.to
          c.pass_alone.result c.pass_alone.new.passed.to (c.pass_alone.ensures.passed f makes h d means);
      alone = c.pass_alone.ensures.alone;
    }
