use Rattle.std.proofs.Common.{rules, ◌≡◌, Err, None, ap}
use Rattle.plinq_ops.specs.Operator.{stages_of}
use Rattle.plinq_merge.proofs.Delivered.{fed-answer, fed-open, can-deliver, made-fed}
use Rattle.plinq_merge.proofs.deliver.DeliverItemTakeInto.take.Goals as goal

pub returns-in_err-deliver_piece-clause-made : goal.returns-in_err-deliver_piece-clause-made
returns-in_err-deliver_piece-clause-made g c =
    let is : c.from_residual-in_err-deliver_piece.result ≡ Err c.in_err-deliver_piece.field-0.0 = search rules in
    let slice : c.as_slice.result.now ≡ c.feed_block.new.block.items = search rules in
    rw is (record {
      plan = record { after = ap (stages_of g.L.Lambda.meaning) c.feed_block.ensures.same; size = c.deliver_piece.ensures.size };
      gives = rw (fed-answer c.in_ok-ending.ensures.fed) (rw slice at c.in_err-deliver_piece.ensures.sent);
    })

pub returns-clause-ready : goal.returns-clause-ready
returns-clause-ready g c = λ is_open.
    let d = c.args.self.now in
    let none : c.in_ok-ending.ending ≡ None = cc in
    can-deliver g.L.Lambda.meaning (record { alloc = d.alloc; pipeline = c.feed_block.new.self; buffer = c.deliver_piece.new.buffer })
    (rw none at c.in_ok-ending.ensures.fed) (c.in_ok-deliver_piece.ensures.kept none).0

pub returns-clause-last : goal.returns-clause-last
returns-clause-last g c = λ is_open.
    let none : c.in_ok-ending.ending ≡ None = cc in
    fed-open _ _ _ _ (rw none at c.in_ok-ending.ensures.fed)

pub returns-clause-made : goal.returns-clause-made
returns-clause-made g c =
    let slice : c.as_slice.result.now ≡ c.feed_block.new.block.items = search rules in
    made-fed c.in_ok-ending.ensures.fed
    (record { after = ap (stages_of g.L.Lambda.meaning) c.feed_block.ensures.same; size = c.deliver_piece.ensures.size })
    (λ none. (rw slice at (c.in_ok-deliver_piece.ensures.kept none)).1) (rw slice at c.in_ok-deliver_piece.ensures.sent)
