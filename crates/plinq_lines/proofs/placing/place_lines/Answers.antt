-- each line is placed in front of those after it
use Rattle.std.proofs.Common.{rules, ◌≡◌, ℕ, zero, suc, ◌-◌, ◌*◌, ◌/◌, ◌<◌, ◌≤◌, ◌++◌, ℤ, List, [], ◌∷◌, Some, length, take, drop, arith, ap, sym}
use Rattle.std.proofs.Common.{refl, ◌∙◌, append-nil, append_assoc, length-drop}
use Rattle.std.specs.List.{flat_map}
use Rattle.std.proofs.Common.{length-take-le}
use Rattle.std.proofs.lemmas.Grind.{flat_map-append}
use Rattle.std.proofs.lemmas.List.{take-append-drop}
use Rattle.std.proofs.lemmas.Nat.{div-add-mod'}
use Rattle.plinq_ops.specs.Batches.{full_batches}
use Rattle.plinq_merge.proofs.Blocks.{full_batches-whole, full_batches-filled, full_batches-short}
use Rattle.plinq_lines.specs.AnswerText.{batch_line}
use Rattle.plinq_lines.proofs.placing.place_lines.Goals as goal

-- how many lines are left in front of the last
fewer : (n k : ℕ) (xs : List ℤ) → 0 < n → n ≤ length xs → length xs ≡ k * n → (j : ℕ) × (length xs - n ≡ j * n)
fewer n zero xs some enough is = absurd (omega (arith, is))
fewer n (suc k) xs some enough is = (k, omega (arith, is))

-- the last line
last_line : (n k : ℕ) (xs front back : List ℤ) → 0 < n → front ++ back ≡ xs → length front ≡ k * n → length back ≡ n
    → flat_map batch_line (full_batches (Some n) [] xs) ≡ flat_map batch_line (full_batches (Some n) [] front) ++ batch_line back
last_line n k xs front back some parts is alone =
    let one : full_batches (Some n) [] back ≡ back ∷ [] =
    ap (full_batches (Some n) []) (sym (append-nil back)) ∙ full_batches-filled n [] back [] (omega arith) (omega arith) in
    ap (flat_map batch_line) (full_batches-whole n k xs front back some parts is ∙ ap (λ bs. full_batches (Some n) [] front ++ bs) one)
    ∙ flat_map-append batch_line (full_batches (Some n) [] front) (back ∷ [])
    ∙ ap (λ text. flat_map batch_line (full_batches (Some n) [] front) ++ text) (append-nil (batch_line back))

pub loop-rest-init : goal.loop-rest-init
loop-rest-init c = record {
  whole = (length c.args.numbers.now / c.args.size, omega (arith, div-add-mod' (length c.args.numbers.now) c.args.size, c.requires.whole));
  room = c.requires.room;
  below = omega arith;
  same = refl;
  placed = refl;
}

pub loop-rest-preserved : goal.loop-rest-preserved
loop-rest-preserved c =
    let n = c.args.size in
    let xs = c.loop-rest.rest.now in
    let front = c.split_at.result.0.now in
    let back = c.split_at.result.1.now in
    let enough : n ≤ length xs = search rules in
    let first : front ≡ take (length xs - n) xs = search rules in
    let last : back ≡ drop (length xs - n) xs = search rules in
    let parts : front ++ back ≡ xs = rw (first, last, take-append-drop (length xs - n) xs) in
    let left = fewer n c.loop-rest.invariant.whole.0 xs c.requires.some enough c.loop-rest.invariant.whole.1 in
    let count : length front ≡ length xs - n = ap length first ∙ length-take-le (length xs - n) xs (omega arith) in
    let alone : length back ≡ n = ap length last ∙ length-drop (length xs - n) xs ∙ omega (arith, enough) in
    let line = last_line n left.0 xs front back c.requires.some parts (count ∙ left.1) alone in
    record {
      whole = (left.0, count ∙ left.1);
      room = omega (arith, count, enough, alone, c.requires.some, c.loop-rest.invariant.room, c.place_line-at.ensures.short);
      below = omega (arith, c.loop-rest.invariant.below, c.place_line-at.ensures.start);
      same = c.place_line-at.ensures.same ∙ c.loop-rest.invariant.same;
      placed =
          ap (λ text. flat_map batch_line (full_batches (Some n) [] front) ++ text) c.place_line-at.ensures.placed
          ∙ sym (append_assoc (flat_map batch_line (full_batches (Some n) [] front)) (batch_line back) (drop c.loop-rest.at c.loop-rest.text))
          ∙ ap (λ text. text ++ drop c.loop-rest.at c.loop-rest.text) (sym line)
          ∙ c.loop-rest.invariant.placed;
    }

pub returns-clause-placed : goal.returns-clause-placed
returns-clause-placed c =
    let short : length c.loop-rest.rest.now < c.args.size = search rules in
    let none : flat_map batch_line (full_batches (Some c.args.size) [] c.loop-rest.rest.now) ≡ [] =
    ap (flat_map batch_line) (full_batches-short c.args.size [] c.loop-rest.rest.now (omega (arith, short))) in
    ap (λ text. text ++ drop c.loop-rest.at c.loop-rest.text) (sym none) ∙ c.loop-rest.invariant.placed
