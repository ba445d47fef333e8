-- some lines are written after those before them
use Rattle.std.proofs.Common.{rules, ◌≡◌, ℕ, ◌-◌, ◌*◌, ◌/◌, ◌%◌, ◌<◌, ◌≤◌, ℤ, List, [], ◌++◌, Some, length, take, drop, arith, ap, refl, ◌∙◌}
use Rattle.std.specs.List.{flat_map}
use Rattle.std.proofs.Common.{length-take-le}
use Rattle.std.proofs.lemmas.Grind.{flat_map-append}
use Rattle.std.proofs.lemmas.List.{take-append-drop}
use Rattle.std.proofs.lemmas.Nat.{div-add-mod'}
use Rattle.plinq_ops.specs.Batches.{full_batches}
use Rattle.plinq_merge.proofs.Blocks.{full_batches-whole}
use Rattle.plinq_lines.specs.AnswerText.{batch_line}
use Rattle.plinq_lines.proofs.PartWritten.{piece-failed, piece-written, rest-writes}
use Rattle.plinq_lines.proofs.batch_lines.write_batches_by.Goals as goal

cut : (n most : ℕ) (xs front back : List ℤ) → 0 < n → most - most % n ≤ length xs → front ≡ take (most - most % n) xs → back ≡ drop (most - most % n) xs
    → flat_map batch_line (full_batches (Some n) [] xs)
    ≡ flat_map batch_line (full_batches (Some n) [] front) ++ flat_map batch_line (full_batches (Some n) [] back)
cut n most xs front back some within first rest =
    let parts : front ++ back ≡ xs = rw (first, rest, take-append-drop (most - most % n) xs) in
    let count : length front ≡ most / n * n = ap length first ∙ length-take-le (most - most % n) xs within ∙ omega (arith, div-add-mod' most n) in
    ap (flat_map batch_line) (full_batches-whole n (most / n) xs front back some parts count)
    ∙ flat_map-append batch_line (full_batches (Some n) [] front) (full_batches (Some n) [] back)

pub returns-in_err-write_few_batches : goal.returns-in_err-write_few_batches
returns-in_err-write_few_batches g c =
    let within : 128 - 128 % c.args.size ≤ length c.loop-rest.rest.now = search rules in
    piece-failed _ _ _ _ c.loop-rest.invariant (cut c.args.size 128 _ _ _ c.requires within c.split_at.ensures.front c.split_at.ensures.back)
    c.from_residual.ensures.0 c.in_err-write_few_batches.ensures

pub loop-rest-preserved : goal.loop-rest-preserved
loop-rest-preserved g c =
    let within : 128 - 128 % c.args.size ≤ length c.loop-rest.rest.now = search rules in
    piece-written _ _ _ c.loop-rest.invariant (cut c.args.size 128 _ _ _ c.requires within c.split_at.ensures.front c.split_at.ensures.back)
    c.in_ok-write_few_batches.ensures

pub returns : goal.returns
returns g c = rest-writes _ _ _ c.loop-rest.invariant refl c.write_few_batches-2.ensures
