use Rattle.std.proofs.Common.{rules, ◌≡◌, [], ◌∷◌, None, refl}
use Rattle.plinq_source.proofs.Followed.{trace_of}
use Rattle.plinq_aggregate.specs.Folding.{fold_of}
use Rattle.plinq_ops.specs.Pipeline.{stages}
use Rattle.plinq_merge.proofs.Delivered.{fed-open}
use Rattle.plinq_run.specs.inner.Blocks.{passes-all, made-none}
use Rattle.plinq_run.proofs.PartsGiven.{still-folds}
use Rattle.plinq_run.proofs.fold_blocks.FoldBlocksTakeInto.take.Goals as goal

pub returns-in_err-ending-clause-made : goal.returns-in_err-ending-clause-made
returns-in_err-ending-clause-made g c =
    made-none _ _ g.met.A.GrowingAggregator.lawful _ g.met.W.TakeInto.lawful _ _ _ _ _ (search rules) refl

pub returns-in_err-parts-clause-made : goal.returns-in_err-parts-clause-made
returns-in_err-parts-clause-made g c =
    made-none _ _ g.met.A.GrowingAggregator.lawful _ g.met.W.TakeInto.lawful _ _ _ _ _ (search rules) refl

pub returns-in_err-part-clause-made : goal.returns-in_err-part-clause-made
returns-in_err-part-clause-made g c =
    made-none _ _ g.met.A.GrowingAggregator.lawful _ g.met.W.TakeInto.lawful _ _ _ _ _ (search rules) refl

pub returns-clause-ready : goal.returns-clause-ready
returns-clause-ready g c = λ is_open.
    let d = c.args.self.now in
    let none : c.in_ok-ending.ending ≡ None = c.take.ensures.last is_open in
    still-folds g.L.Lambda.meaning g.W.Taker.can_take (record {
      alloc = d.alloc;
      pipeline = c.feed_block.new.self;
      aggregator = d.aggregator;
      inner = c.take.new.self;
    }) _ _ _
    (rw none at c.in_ok-ending.ensures.fed) (c.take.ensures.ready is_open)

pub returns-clause-last : goal.returns-clause-last
returns-clause-last g c = λ is_open.
    let none : c.in_ok-ending.ending ≡ None = c.take.ensures.last is_open in
    fed-open _ _ _ _ (rw none at c.in_ok-ending.ensures.fed)

pub returns-clause-made : goal.returns-clause-made
returns-clause-made g c =
    let m = g.L.Lambda.meaning in
    let d = c.args.self.now in
    let f = g.A.GrowingAggregator.folding d.aggregator.now in
    let lawful = g.met.A.GrowingAggregator.lawful d.aggregator.now in
    let out = c.feed_block.new.block.items in
    let parts : c.push_reserved.new.self.items ≡ fold_of f out ∷ [] = search rules in
    record {
      same = refl;
      passes =
          passes-all f lawful g.W.TakeInto.made g.met.W.TakeInto.lawful c.take.result (stages m d.pipeline) (stages m c.feed_block.new.self)
          (trace_of c.args.items.items c.args.ending) out c.in_ok-ending.ending d.inner c.args.out.now c.take.new.self c.take.new.out
          c.in_ok-ending.ensures.fed c.take.ensures.last (rw parts at c.take.ensures.made);
    }
