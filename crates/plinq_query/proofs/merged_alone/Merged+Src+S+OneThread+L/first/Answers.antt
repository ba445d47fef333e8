-- The first that comes is kept, and no other is asked for.
use Rattle.std.specs.Prelude.{None}
use Rattle.std.specs.List.{filter_map}
use Rattle.plinq_passing.proofs.Accumulating.{first-passed}
use Rattle.plinq_query.proofs.merged_alone.Merged+Src+S+OneThread+L.first.Goals as goal

pub returns-clause-value : goal.returns-clause-value
returns-clause-value g c f makes h d means =
    let t = g.Src.Source.whole c.args.self.query.source in
    rw c.told_first.ensures
    (first-passed t (h (filter_map f t.items)) (d (filter_map f t.items)) _ ⊥ 1 None c.pass_alone-outcome.result c.pass_alone-outcome.new.passed.to
    (c.pass_alone-outcome.ensures.passed f makes h d means))
