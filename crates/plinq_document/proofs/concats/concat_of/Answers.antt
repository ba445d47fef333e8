-- Both sources have no more items than their bounds.
use Rattle.std.proofs.Common.{◌≡◌, true, Ok, rules}
use Rattle.serde_json.specs.View.{view}
use Rattle.plinq_document.specs.Sources.{plain_source_of, bound_of, few_together}
use Rattle.plinq_document.specs.PlainWalked.{plain_whole}
use Rattle.plinq_document.proofs.TwoSources.{few-both}
use Rattle.plinq_document.proofs.concats.concat_of.Goals as goal

pub new-requires-clause-few : goal.new-requires-clause-few
new-requires-clause-few c κs =
    let first = view c.args.first.now in
    let second = view c.args.second.now in
    let is_first : plain_source_of first ≡ Ok (plain_whole c.in-Ok.a) = search rules in
    let is_second : plain_source_of second ≡ Ok (plain_whole c.in_ok-b-in-Ok.b) = search rules in
    let few : few_together (bound_of first) (bound_of second) ≡ true = search rules in
    few-both first second (plain_whole c.in-Ok.a) (plain_whole c.in_ok-b-in-Ok.b) is_first is_second few
