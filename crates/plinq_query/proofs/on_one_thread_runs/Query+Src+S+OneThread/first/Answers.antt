-- The first item that comes is the first.
use Rattle.std.specs.Prelude.{None}
use Rattle.std.specs.List.{filter_map}
use Rattle.plinq_passing.proofs.OneByOne.{first-alone}
use Rattle.plinq_passing.proofs.Searching.{first-singly}
use Rattle.plinq_query.proofs.on_one_thread_runs.Query+Src+S+OneThread.first.Goals as goal

pub returns : goal.returns
returns g c =
    let t = g.Src.Source.whole c.args.self.source in
    record {
      value = λ f makes.
          rw c.told_first.ensures
          (first-singly ⊥ 1 None t (filter_map f t.items) _ c.call_alone-outcome.result c.call_alone-outcome.new.by
          (c.call_alone-outcome.ensures.calls f makes));
      alone =
          rw c.told_first.ensures
          (first-alone c.call_alone-outcome.new.by.item c.call_alone-outcome.result c.call_alone-outcome.ensures.alone);
    }
