use Rattle.std.proofs.Common.{◌∙◌, ap, sym, refl, rules}
use Rattle.plinq_ops.specs.Stage.{some_takes_none}
use Rattle.plinq_ops.proofs.ByKey.{stages-reached}
use Rattle.plinq_ops.proofs.Chunks.{fed-fragment, fragment-over}
use Rattle.plinq_ops.proofs.fragmenting.fragment.Goals as goal

pub returns-then-is_over : goal.returns-then-is_over
returns-then-is_over g c =
    let begins = stages-reached g.L.Lambda.meaning c.args.worker.now c.args.key c.in_ok-pipeline.pipeline c.in_ok-pipeline.ensures in
    fragment-over g.L.Lambda.meaning c.args.worker.now c.args.key c.args.x _ c.requires.keyed c.requires.some
    (ap some_takes_none (sym begins) ∙ search rules) c.new-items.ensures.items refl

pub frag_end-ending-requires : goal.frag_end-ending-requires
frag_end-ending-requires g c =
    let whole = stages-reached g.L.Lambda.meaning c.args.worker.now c.args.key c.in_ok-pipeline.pipeline c.in_ok-pipeline.ensures in
    (fed-fragment g.L.Lambda.meaning c.args.worker.now c.args.key c.args.x _ _ _ _ _ whole c.requires.keyed c.requires.some c.in_ok-ending.ensures.fed).sound

pub returns : goal.returns
returns g c =
    let whole = stages-reached g.L.Lambda.meaning c.args.worker.now c.args.key c.in_ok-pipeline.pipeline c.in_ok-pipeline.ensures in
    let fed =
    fed-fragment g.L.Lambda.meaning c.args.worker.now c.args.key c.args.x _ _ _ _ _ whole c.requires.keyed c.requires.some c.in_ok-ending.ensures.fed in
    record {
      items = fed.items ∙ rw c.new-items.ensures.items refl;
      ending = rw fed.told at c.frag_end-ending.ensures;
    }
