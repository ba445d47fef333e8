use Rattle.std.proofs.Common.{◌≡◌, ◌∙◌, ◌&&◌, ◌+◌, ◌∷◌, ap, sym, drop, arith, true}
use Rattle.std.specs.List.{concat}
use Rattle.std.proofs.lemmas.List.{drop_more}
use Rattle.plinq_keyed.specs.Keys.{key_lists, element_lists, ordered_across, keys}
use Rattle.plinq_keyed.specs.inner.Sweeps.{all_from, least_after}
use Rattle.plinq_keyed.proofs.Across.{across-step, all_from-zero}
use Rattle.plinq_keyed.proofs.checks.check_across.Goals as goal

pub loop-part-init : goal.loop-part-init
loop-part-init g c = record {
  rest = ap (λ b. b && ordered_across (key_lists (element_lists c.args.parts.now))) (all_from-zero (concat (key_lists (element_lists c.args.parts.now))));
  small = omega arith;
}

pub loop-part-preserved : goal.loop-part-preserved
loop-part-preserved g c =
    let parts = c.args.parts.now in
    let i = c.loop-part.part-index in
    let part = c.part-item.result in
    let least = c.loop-part.least in
    let rest = key_lists (element_lists (drop (i + 1) parts)) in
    let here : drop i parts ≡ part ∷ drop (i + 1) parts =
    drop_more parts i part c.loop-part-test.true ∙ ap (λ v. v ∷ drop (i + 1) parts) (sym c.part-item.is) in
    let passed : all_from least (keys part.items) ≡ true = cc in
    let moved : c.least_above-least.result ≡ least_after least (keys part.items) = cc in
    record {
      rest =
          ap (λ n. all_from n (concat rest) && ordered_across rest) moved
          ∙ across-step least (keys part.items) rest passed
          ∙ ap (λ ps. all_from least (concat (key_lists (element_lists ps))) && ordered_across (key_lists (element_lists ps))) (sym here)
          ∙ c.loop-part.invariant.rest;
      small = c.least_above-least.ensures.small;
    }
