-- What was collected is the list of all that came.
use Rattle.plinq_passing.specs.Ran.{left_trace}
use Rattle.plinq_passing.proofs.Listing.{listed-alone}
use Rattle.plinq_query.proofs.ended_lists.Merged+Src+S+OneThread+L.to_vec_and_ending.Goals as goal

pub returns : goal.returns
returns g c =
    record {
      value = λ f makes h d means.
          let left = left_trace f h d (g.Src.Source.whole c.args.self.query.source) in
          listed-alone (λ s. s.by) (λ s. s.acc) (λ v. v.items) left.items left.ending _ c.call_left_alone-outcome.new.by c.empty_list-list.ensures
          c.call_left_alone-outcome.result c.call_left_alone-outcome.ensures.alone (c.call_left_alone-outcome.ensures.calls f makes h d means)
          c.told_list.result c.told_list.ensures;
    }
