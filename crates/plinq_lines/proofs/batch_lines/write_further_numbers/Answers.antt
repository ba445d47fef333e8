-- some numbers are written after those before them, and at the end the line feed
use Rattle.std.proofs.Common.{◌≡◌, ℕ, ℤ, List, ◌++◌, take, drop, ap, sym, ◌∙◌, append_assoc}
use Rattle.std.specs.List.{flat_map}
use Rattle.std.proofs.lemmas.Bool.{eqb-true}
use Rattle.std.proofs.lemmas.Grind.{flat_map-append}
use Rattle.std.proofs.lemmas.List.{take-append-drop}
use Rattle.plinq_lines.specs.AnswerText.{line, further_number}
use Rattle.plinq_lines.proofs.ItemLines.{line-none}
use Rattle.plinq_lines.proofs.PartWritten.{piece-failed, piece-written, rest-writes}
use Rattle.plinq_lines.proofs.batch_lines.write_further_numbers.Goals as goal

cut : (n : ℕ) (xs front back : List ℤ) → front ≡ take n xs → back ≡ drop n xs
    → line (flat_map further_number xs) ≡ flat_map further_number front ++ line (flat_map further_number back)
cut n xs front back first rest =
    let whole : front ++ back ≡ xs = rw (first, rest, take-append-drop n xs) in
    ap (λ ys. line (flat_map further_number ys)) (sym whole) ∙ simp (flat_map-append, append_assoc)

pub returns-in_err-write_few_numbers : goal.returns-in_err-write_few_numbers
returns-in_err-write_few_numbers g c =
    piece-failed _ _ _ _ c.loop-rest.invariant (cut _ _ _ _ c.split_at.ensures.front c.split_at.ensures.back)
    c.from_residual.ensures.0 c.in_err-write_few_numbers.ensures

pub loop-rest-preserved : goal.loop-rest-preserved
loop-rest-preserved g c =
    piece-written _ _ _ c.loop-rest.invariant (cut _ _ _ _ c.split_at.ensures.front c.split_at.ensures.back) c.in_ok-write_few_numbers.ensures

pub returns : goal.returns
returns g c =
    let none = eqb-true _ _ (sym c.is_empty.ensures ∙ c.loop-rest-test.false) in
    rest-writes _ _ _ c.loop-rest.invariant (line-none further_number _ none) c.write_bytes.ensures
