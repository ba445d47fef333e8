use Rattle.std.proofs.Common.{rules, ◌≡◌, ◌∙◌, ap, ◌++◌, ◌∷◌, [], set}
use Rattle.std.proofs.lemmas.List.Elements.{All-push, All-set}
use Rattle.plinq_partition.specs.Partitions.{holding_of, new_beside, IsPartitionOf}
use Rattle.plinq_partition.proofs.Lists.{made-set, made-more, made-first}
use Rattle.plinq_partition.proofs.chunked.Chunked.partitions.Goals as goal

pub loop-preserved : goal.loop-preserved
loop-preserved g c =
    let a = holding_of c.args.partition in
    let items = c.loop.partitions.items in
    let first = c.dynamic-new.new.partition in
    let pushed : c.push_reserved-in-loop.new.self.items ≡ set items 0 first ++ c.dynamic-new.result ∷ [] = search rules in
    let was : holding_of c.index_mut.result.now ≡ a =
    ap holding_of c.index_mut.ensures.value ∙ made-first a items c.index_mut.result.now c.loop.invariant.made in
    record {
      of =
          rw pushed (All-push (IsPartitionOf c.args.self.now) (set items 0 first) c.dynamic-new.result
          (All-set (IsPartitionOf c.args.self.now) items 0 first c.dynamic-new.ensures.of.0 c.loop.invariant.of) c.dynamic-new.ensures.of.1);
      made =
          rw pushed (made-more a (set items 0 first) c.dynamic-new.result (made-set a items first c.loop.invariant.made (c.dynamic-new.ensures.same ∙ was))
          (c.dynamic-new.ensures.new ∙ ap new_beside was));
      counted = search rules;
      room = search rules;
    }
