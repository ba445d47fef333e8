-- What was collected is the list of all that came.
use Rattle.std.specs.List.{filter_map}
use Rattle.plinq_passing.proofs.Listing.{listed-alone}
use Rattle.plinq_query.proofs.ended_lists.Query+Src+S+OneThread.to_vec_and_ending.Goals as goal

pub returns : goal.returns
returns g c =
    record {
      value = λ f makes.
          let t = g.Src.Source.whole c.args.self.source in
          listed-alone (λ s. s.by) (λ s. s.acc) (λ v. v.items) (filter_map f t.items) t.ending _ c.call_alone-outcome.new.by c.empty_list-list.ensures
          c.call_alone-outcome.result c.call_alone-outcome.ensures.alone (c.call_alone-outcome.ensures.calls f makes) c.told_list.result
          c.told_list.ensures;
    }
