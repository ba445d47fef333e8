use Rattle.std.proofs.Common.{◌≡◌, ◌+◌, ◌∙◌, ◌&&◌, true, false, drop, sym, ap}
use Rattle.std.proofs.lemmas.List.{drop_all}
use Rattle.plinq_keyed.specs.Keys.{keys}
use Rattle.plinq_keyed.specs.inner.Sweeps.{are_disjoint}
use Rattle.plinq_keyed.proofs.Distinct.{are_disjoint-nil}
use Rattle.plinq_keyed.proofs.LoopSteps.{drop-at, all_keys, are_disjoint-next, ordered-next}
use Rattle.plinq_keyed.proofs.normalized.are_disjoint_from_all.Goals as goal

pub returns-then-not-are_disjoint : goal.returns-then-not-are_disjoint
returns-then-not-are_disjoint g c =
    let ks = keys c.args.part.now in
    let others = c.args.others.now in
    let i = c.loop-other.other-index in
    let other = c.other-item.result in
    let here = drop-at others i other c.loop-other-test.true c.other-item.is in
    let met : are_disjoint ks (keys other.items) ≡ false = cc in
    sym (sym c.loop-other.invariant.rest ∙ are_disjoint-next ks others i other here ∙ ap (λ b. b && are_disjoint ks (all_keys (drop (i + 1) others))) met)

pub loop-other-preserved : goal.loop-other-preserved
loop-other-preserved g c =
    let ks = keys c.args.part.now in
    let others = c.args.others.now in
    let i = c.loop-other.other-index in
    let other = c.other-item.result in
    let here = drop-at others i other c.loop-other-test.true c.other-item.is in
    let met : are_disjoint ks (keys other.items) ≡ true = cc in
    record {
      rest = sym (are_disjoint-next ks others i other here ∙ ap (λ b. b && are_disjoint ks (all_keys (drop (i + 1) others))) met) ∙ c.loop-other.invariant.rest;
      rising = (ordered-next others i other here c.loop-other.invariant.rising).1;
    }

pub returns : goal.returns
returns g c =
    let ks = keys c.args.part.now in
    let none = drop_all c.loop-other.other-index c.args.others.now c.loop-other-test.false in
    sym (sym c.loop-other.invariant.rest ∙ ap (λ ps. are_disjoint ks (all_keys ps)) none ∙ are_disjoint-nil ks)
