use Rattle.std.proofs.Common.{rules, ◌∙◌}
use Rattle.plinq_ops.specs.Plan.{order_of, known_at_source}
use Rattle.plinq_ops.proofs.Parts.{length-worker-le, take-worker, drop-worker, worker_part-by_key, parts-undecided}
use Rattle.plinq_ops.proofs.query.Query.split.Goals as goal

pub split_at-requires : goal.split_at-requires
split_at-requires g c = rw c.worker_len.ensures (length-worker-le (known_at_source c.order-order.result) c.ops-ops.result.now)

pub returns-clause-plan : goal.returns-clause-plan
returns-clause-plan g c =
    let ops = c.args.self.now.ops in
    let known = known_at_source (order_of c.args.self.now.ordered) in
    record {
      worker = c.split_at.ensures.front ∙ rw (c.worker_len.ensures, c.order-order.ensures, c.ops-ops.ensures) (take-worker known ops);
      after = c.split_at.ensures.back ∙ rw (c.worker_len.ensures, c.order-order.ensures, c.ops-ops.ensures) (drop-worker known ops);
      order = search rules;
      decided = search rules;
    }

pub returns-clause-by_key : goal.returns-clause-by_key
returns-clause-by_key g c =
    let ops = c.args.self.now.ops in
    let order = order_of c.args.self.now.ordered in
    rw (c.split_at.ensures.front, c.worker_len.ensures, c.order-order.ensures, c.ops-ops.ensures, take-worker (known_at_source order) ops)
    (worker_part-by_key order ops)

pub returns-clause-undecided : goal.returns-clause-undecided
returns-clause-undecided g c = λ undecided.
    let ops = c.args.self.now.ops in
    let order = order_of c.args.self.now.ordered in
    rw (
      c.split_at.ensures.front,
      c.split_at.ensures.back,
      c.worker_len.ensures,
      c.order-order.ensures,
      c.ops-ops.ensures,
      take-worker
          (known_at_source order) ops,
      drop-worker (known_at_source order) ops,
    )
    (parts-undecided order ops (search (rules, undecided)))
