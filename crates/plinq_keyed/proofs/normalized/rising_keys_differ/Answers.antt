use Rattle.std.proofs.Common.{◌≡◌, ◌+◌, ◌∙◌, ◌&&◌, true, false, drop, sym, ap}
use Rattle.plinq_keyed.specs.Keys.{keys, are_distinct}
use Rattle.plinq_keyed.specs.inner.Sweeps.{are_disjoint}
use Rattle.plinq_keyed.proofs.LoopSteps.{drop-at, all_keys, are_distinct-next_rising, ordered-next}
use Rattle.plinq_keyed.proofs.normalized.rising_keys_differ.Goals as goal

pub returns-then-not-are_disjoint_from_all : goal.returns-then-not-are_disjoint_from_all
returns-then-not-are_disjoint_from_all g c =
    let parts = c.args.parts.now in
    let i = c.loop-place.place in
    let part = c.index-parts-place.result in
    let here = drop-at parts i part c.loop-place-test.true c.index-parts-place.is in
    let rising = ordered-next parts i part here c.loop-place.invariant.rising in
    let met : are_disjoint (keys part.items) (all_keys (drop (i + 1) parts)) ≡ false = cc in
    sym (sym c.loop-place.invariant.rest ∙ are_distinct-next_rising parts i part here rising.0
    ∙ ap (λ b. b && are_distinct (all_keys (drop (i + 1) parts))) met)

pub loop-place-preserved : goal.loop-place-preserved
loop-place-preserved g c =
    let parts = c.args.parts.now in
    let i = c.loop-place.place in
    let part = c.index-parts-place.result in
    let here = drop-at parts i part c.loop-place-test.true c.index-parts-place.is in
    let rising = ordered-next parts i part here c.loop-place.invariant.rising in
    let met : are_disjoint (keys part.items) (all_keys (drop (i + 1) parts)) ≡ true = cc in
    record {
      rest =
          sym (are_distinct-next_rising parts i part here rising.0 ∙ ap (λ b. b && are_distinct (all_keys (drop (i + 1) parts))) met)
          ∙ c.loop-place.invariant.rest;
      rising = rising.1;
    }
