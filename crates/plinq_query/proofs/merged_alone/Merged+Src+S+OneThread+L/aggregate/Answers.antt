-- What comes is folded, one item after another.
use Rattle.std.specs.List.{filter_map}
use Rattle.std.proofs.Common.{ap}
use Rattle.std.specs.Prelude.{Some}
use Rattle.plinq_passing.proofs.Accumulating.{folded-alone}
use Rattle.plinq_query.proofs.merged_alone.Merged+Src+S+OneThread+L.aggregate.Goals as goal

pub returns : goal.returns
returns g c =
    let t = g.Src.Source.whole c.args.self.query.source in
    record {
      value = λ f makes h d means.
          rw c.told_folded.ensures
          (folded-alone g.A.GrowingAggregator.folding (λ k. k.by) (λ k. k.acc) t (h (filter_map f t.items)) (d (filter_map f t.items)) _
          (ap Some c.seed-acc.ensures) c.pass_alone-outcome.result c.pass_alone-outcome.new.passed.to c.pass_alone-outcome.ensures.alone
          (c.pass_alone-outcome.ensures.passed f makes h d means));
    }
