use Rattle.std.proofs.Common.{◌≡◌, ◌<◌, ◌∙◌, [], drop, get_or, sym, ap, arith}
use Rattle.std.proofs.lemmas.List.{drop_all}
use Rattle.plinq_keyed.specs.Keys.{keys}
use Rattle.plinq_keyed.specs.inner.Sweeps.{are_disjoint}
use Rattle.plinq_keyed.proofs.Distinct.{are_disjoint-nil}
use Rattle.plinq_keyed.proofs.LoopSteps.{drop-at, rises-next, are_disjoint-left, are_disjoint-right}
use Rattle.plinq_keyed.proofs.normalized.are_disjoint.Goals as goal

pub loop-at-preserved-then-key-other-2 : goal.loop-at-preserved-then-key-other-2
loop-at-preserved-then-key-other-2 g c =
    let xs = c.args.left.now in
    let ys = c.args.right.now in
    let x = c.index-left-at.result in
    let y = c.index-right-by.result in
    let ex = drop-at xs c.loop-at.at x c.loop-at-test.true c.index-left-at.is in
    let ey = drop-at ys c.loop-at.by y c.if-by-right.true c.index-right-by.is in
    let kx : x.key ≡ (get_or xs c.loop-at.at x).key = ap (λ e. e.key) c.index-left-at.is in
    let ky : y.key ≡ (get_or ys c.loop-at.by y).key = ap (λ e. e.key) c.index-right-by.is in
    let below : x.key < y.key = omega (arith, c.if-key-other-2.true) in
    record {
      rest = are_disjoint-left xs ys c.loop-at.at c.loop-at.by x y ex ey below c.loop-at.invariant.right ∙ c.loop-at.invariant.rest;
      left = rises-next xs c.loop-at.at x ex c.loop-at.invariant.left;
      right = c.loop-at.invariant.right;
    }

pub loop-at-preserved : goal.loop-at-preserved
loop-at-preserved g c =
    let xs = c.args.left.now in
    let ys = c.args.right.now in
    let x = c.index-left-at.result in
    let y = c.index-right-by.result in
    let ex = drop-at xs c.loop-at.at x c.loop-at-test.true c.index-left-at.is in
    let ey = drop-at ys c.loop-at.by y c.if-by-right.true c.index-right-by.is in
    let kx : x.key ≡ (get_or xs c.loop-at.at x).key = ap (λ e. e.key) c.index-left-at.is in
    let ky : y.key ≡ (get_or ys c.loop-at.by y).key = ap (λ e. e.key) c.index-right-by.is in
    let below : y.key < x.key = omega (arith, c.if-key-other.false, c.if-key-other-2.false) in
    record {
      rest = are_disjoint-right xs ys c.loop-at.at c.loop-at.by x y ex ey below c.loop-at.invariant.left ∙ c.loop-at.invariant.rest;
      left = c.loop-at.invariant.left;
      right = rises-next ys c.loop-at.by y ey c.loop-at.invariant.right;
    }

pub returns-else-by-right : goal.returns-else-by-right
returns-else-by-right g c =
    let none : drop c.loop-at.by c.args.right.now ≡ [] = drop_all c.loop-at.by c.args.right.now c.if-by-right.false in
    sym (sym c.loop-at.invariant.rest ∙ ap (λ zs. are_disjoint (keys (drop c.loop-at.at c.args.left.now)) (keys zs)) none
    ∙ are_disjoint-nil (keys (drop c.loop-at.at c.args.left.now)))
