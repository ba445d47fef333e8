use Rattle.std.proofs.Common.{rules, ◌≡◌, ◌+◌, ◌≤◌, ◌∷◌, drop, None, is_some, true, sym, ◌∙◌, ap, arith, refl}
use Rattle.std.proofs.lemmas.List.{drop_more}
use Rattle.plinq_ops.proofs.ByKey.{stages-reached}
use Rattle.plinq_ops.proofs.Fed.{none-from_is_some, undecided-left}
use Rattle.plinq_ops.proofs.Chunks.{fed-fragment, after-more, after-dropped, after-stop, told-stop}
use Rattle.plinq_ops.proofs.chunking.work_each.Goals as goal

pub feed-requires : goal.feed-requires
feed-requires g c = record { undecided = c.loop-at.invariant.2 }

pub frag_end-ending-requires : goal.frag_end-ending-requires
frag_end-ending-requires g c =
    (fed-fragment g.L.Lambda.meaning c.args.worker.now (c.args.first + c.loop-at.at) c.index-items-at.result _ _ _ _ _ c.loop-at.invariant.1 c.requires.keyed
    c.requires.some c.in_ok-ending.ensures.fed).sound

pub returns-then-is_some : goal.returns-then-is_some
returns-then-is_some g c =
    let m = g.L.Lambda.meaning in
    let worker = c.args.worker.now in
    let items = c.args.items.now in
    let i = c.loop-at.at in
    let key = c.args.first + i in
    let x = c.index-items-at.result in
    let within : key ≤ c.args.cut = omega (arith, c.if-key-cut.false) in
    let here : drop i items ≡ x ∷ drop (i + 1) items = drop_more items i x c.loop-at-test.true ∙ ap (λ y. y ∷ drop (i + 1) items) (sym c.index-items-at.is) in
    let past = rw here at c.loop-at.invariant.0 in
    let ends : is_some c.in_ok-ending.ending ≡ true = search rules in
    let fed = fed-fragment m worker key x _ _ _ _ _ c.loop-at.invariant.1 c.requires.keyed c.requires.some c.in_ok-ending.ensures.fed in
    let stopped = after-stop m worker c.args.cut key x (drop (i + 1) items) _ _ _ _ _ _ within ends past fed in
    record { items = stopped.items; stop = (stopped.stop, told-stop _ _ _ _ _ c.frag_end-ending.result stopped c.frag_end-ending.ensures) }

pub loop-at-preserved : goal.loop-at-preserved
loop-at-preserved g c =
    let m = g.L.Lambda.meaning in
    let worker = c.args.worker.now in
    let items = c.args.items.now in
    let i = c.loop-at.at in
    let key = c.args.first + i in
    let x = c.index-items-at.result in
    let within : key ≤ c.args.cut = omega (arith, c.if-key-cut.false) in
    let here : drop i items ≡ x ∷ drop (i + 1) items = drop_more items i x c.loop-at-test.true ∙ ap (λ y. y ∷ drop (i + 1) items) (sym c.index-items-at.is) in
    let past = rw here at c.loop-at.invariant.0 in
    let open_still : c.in_ok-ending.ending ≡ None = none-from_is_some _ (search rules) in
    let fed = rw open_still at (fed-fragment m worker key x _ _ _ _ _ c.loop-at.invariant.1 c.requires.keyed c.requires.some c.in_ok-ending.ensures.fed) in
    let next : key + 1 ≡ c.args.first + (i + 1) = omega arith in
    let left = fed.left refl in (
      rw (← next) (after-more m worker c.args.cut key x (drop (i + 1) items) _ _ _ _ _ within past fed),
      rw (← next) left,
      undecided-left _ _ _ _ _
          (rw open_still at c.in_ok-ending.ensures.fed),
    )

pub loop-at-init : goal.loop-at-init
loop-at-init g c =
    let first : c.args.first + 0 ≡ c.args.first = omega arith in
    let begins = stages-reached g.L.Lambda.meaning c.args.worker.now c.args.first c.in_ok-pipeline.pipeline c.in_ok-pipeline.ensures in
    (rw (first, c.requires.empty) (record { items = refl; ending = refl; dropped = refl; stop = refl }), rw first begins, rw begins c.requires.undecided)

pub returns-then-key-cut : goal.returns-then-key-cut
returns-then-key-cut g c =
    let items = c.args.items.now in
    let i = c.loop-at.at in
    let x = c.index-items-at.result in
    let here : drop i items ≡ x ∷ drop (i + 1) items = drop_more items i x c.loop-at-test.true ∙ ap (λ y. y ∷ drop (i + 1) items) (sym c.index-items-at.is) in
    let dropped =
    after-dropped g.L.Lambda.meaning c.args.worker.now c.args.cut (c.args.first + i) x (drop (i + 1) items) _ _ _ (omega (arith, c.if-key-cut.true))
    (rw here at c.loop-at.invariant.0) in
    record { items = dropped.0; stop = (dropped.1, rw dropped.2 refl) }
