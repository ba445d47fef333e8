use Rattle.std.proofs.Common.{rules, ◌≡◌, ◌∙◌, ap, sym, Some, Err, []}
use Rattle.std.proofs.lemmas.List.Elements.{All-pop}
use Rattle.plinq_ticket.specs.Passes.{IsPassOf}
use Rattle.plinq_partition.specs.Partitions.{IsPartitionOf}
use Rattle.plinq_partition.specs.GivenBack.{reported_answer}
use Rattle.plinq_ticket.specs.Shares.{in_ticket_order}
use Rattle.plinq_partition.proofs.Lists.{at-some, gathered-last, gathered-next, gathered-all}
use Rattle.plinq_partition.proofs.chunked.Chunked.give_back.Goals as goal

pub loop-partition-init : goal.loop-partition-init
loop-partition-init g c =
    let popped = All-pop (IsPartitionOf c.args.self) c.args.partitions.items c.pop.new.self.items (Some c.in-Some.last) c.in-Some.ensures.items c.requires.of in
    record {
      all = popped.0;
      of = (at-some c.args.self.lock c.in-Some.last.requests c.in-Some.last.pass c.into_pass-pass.result c.into_pass-pass.ensures popped.1).of;
      gathered =
          gathered-last c.args.partitions.items c.pop.new.self.items c.in-Some.last c.into_pass-pass.result c.in-Some.ensures.items c.into_pass-pass.ensures;
    }

pub join-pass-requires-after_bounds : goal.join-pass-requires-after_bounds
join-pass-requires-after_bounds g c =
    let popped =
    All-pop (IsPartitionOf c.args.self) c.loop-partition.partitions.items c.pop-in-loop-partition.new.self.items
    (Some c.in-Some-pop.partition) c.in-Some-pop.ensures.items c.loop-partition.invariant.all in
    let mine : IsPassOf c.args.self.lock c.into_pass.result =
    (at-some c.args.self.lock c.in-Some-pop.partition.requests c.in-Some-pop.partition.pass c.into_pass.result c.into_pass.ensures popped.1).of in
    let other : IsPassOf c.args.self.lock c.loop-partition.pass = c.loop-partition.invariant.of in
    search rules

pub loop-partition-preserved : goal.loop-partition-preserved
loop-partition-preserved g c =
    let popped =
    All-pop (IsPartitionOf c.args.self) c.loop-partition.partitions.items c.pop-in-loop-partition.new.self.items
    (Some c.in-Some-pop.partition) c.in-Some-pop.ensures.items c.loop-partition.invariant.all in
    record {
      all = popped.0;
      of = c.join-pass.ensures.lock;
      gathered =
          gathered-next c.args.partitions.items c.loop-partition.partitions.items c.pop-in-loop-partition.new.self.items c.in-Some-pop.partition
          c.into_pass.result c.loop-partition.pass c.join-pass.result
          c.loop-partition.invariant.gathered c.in-Some-pop.ensures.items c.into_pass.ensures c.join-pass.ensures.share c.join-pass.ensures.origin;
    }

pub finish-requires-after_bounds : goal.finish-requires-after_bounds
finish-requires-after_bounds g c = let of = c.loop-partition.invariant.of in search rules

pub returns-in-Ok-clause-back : goal.returns-in-Ok-clause-back
returns-in-Ok-clause-back g c =
    let empty : c.loop-partition.partitions.items ≡ [] = search rules in
    let all = gathered-all c.args.partitions.items c.loop-partition.partitions.items c.loop-partition.pass c.loop-partition.invariant.gathered empty in
    record {
      pass = c.loop-partition.pass;
      origin = all.1;
      share = all.0;
      finished = c.finish.result;
      is_finished = c.finish.ensures;
      result_is = sym (ap reported_answer c.in-Ok.is);
    }

pub returns-in-Ok-clause-whole : goal.returns-in-Ok-clause-whole
returns-in-Ok-clause-whole g c =
    let empty : c.loop-partition.partitions.items ≡ [] = search rules in
    let all = gathered-all c.args.partitions.items c.loop-partition.partitions.items c.loop-partition.pass c.loop-partition.invariant.gathered empty in
    let answer = rw c.in-Ok.is at c.finish.ensures.answer in
    (answer.1.origin_is ∙ all.1, answer.1.history_is ∙ ap in_ticket_order all.0)

pub returns-clause-back : goal.returns-clause-back
returns-clause-back g c =
    let empty : c.loop-partition.partitions.items ≡ [] = search rules in
    let all = gathered-all c.args.partitions.items c.loop-partition.partitions.items c.loop-partition.pass c.loop-partition.invariant.gathered empty in
    record {
      pass = c.loop-partition.pass;
      origin = all.1;
      share = all.0;
      finished = c.finish.result;
      is_finished = c.finish.ensures;
      result_is = ap (λ f. Err (c.in-Err.enumerator, f)) c.from.ensures ∙ sym (ap reported_answer c.in-Err.is);
    }
