use Rattle.std.proofs.Common.{◌≡◌, ◌∙◌, ◌&&◌, true, length, sym, ap}
use Rattle.plinq_keyed.specs.Keys.{are_distinct}
use Rattle.plinq_keyed.specs.inner.Sweeps.{all_below}
use Rattle.plinq_keyed.proofs.Distinct.{counts_up-from}
use Rattle.plinq_keyed.proofs.LoopSteps.{all_keys}
use Rattle.plinq_keyed.proofs.normalized.check_normalized.Goals as goal

pub returns-then-check_in_each : goal.returns-then-check_in_each
returns-then-check_in_each g c =
    let ks = all_keys c.args.parts.now in
    let below : all_below (length ks) ks ≡ true = cc in
    c.rising_keys_differ.ensures ∙ sym (counts_up-from ks ∙ ap (λ b. b && are_distinct ks) below)

pub returns-else-check_in_each : goal.returns-else-check_in_each
returns-else-check_in_each g c =
    let ks = all_keys c.args.parts.now in
    let below : all_below (length ks) ks ≡ true = cc in
    c.keys_differ.ensures ∙ sym (counts_up-from ks ∙ ap (λ b. b && are_distinct ks) below)
