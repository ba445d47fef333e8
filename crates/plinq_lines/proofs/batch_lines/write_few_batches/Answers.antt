-- the lines end where the array does
use Rattle.std.proofs.Common.{rules, ◌≡◌, ℤ, List, ◌∷◌, refl, ◌-◌, ◌%◌, [], ◌++◌, length, take, drop, Some, ap, sym, ◌∙◌, append-nil, length-drop, arith}
use Rattle.std.specs.List.{flat_map}
use Rattle.std.proofs.lemmas.List.{nil_from_length}
use Rattle.plinq_ops.specs.Batches.{full_batches}
use Rattle.plinq_merge.proofs.Blocks.{full_batches-before}
use Rattle.plinq_lines.specs.AnswerText.{single_line, batch_line}
use Rattle.plinq_lines.proofs.WrittenBytes.{writes-as}
use Rattle.plinq_lines.proofs.batch_lines.write_few_batches.Goals as goal

-- each number as a line of its own
single-lines : (xs : List ℤ) → flat_map single_line xs ≡ flat_map batch_line (full_batches (Some 1) [] xs)
single-lines [] = refl
single-lines (x ∷ xs) = ap (λ text. single_line x ++ text) (single-lines xs)

pub returns-then-size-eq1 : goal.returns-then-size-eq1
returns-then-size-eq1 g c =
    let xs = c.args.numbers.now in
    let one : c.args.size ≡ 1 = search rules in
    let room : length c.args.text.now ≡ 2816 = search rules in
    let none : drop 2816 c.args.text.now ≡ [] = nil_from_length _ (length-drop 2816 c.args.text.now ∙ omega (arith, room)) in
    let is : drop c.place_single_lines-start.result c.place_single_lines-start.new.text ≡ flat_map single_line xs =
    c.place_single_lines-start.ensures.placed ∙ ap (λ z. flat_map single_line xs ++ z) none ∙ append-nil (flat_map single_line xs) in
    rw one (writes-as _ _ _ _ _ (is ∙ single-lines xs) c.write_from.ensures)

pub returns : goal.returns
returns g c =
    let n = c.args.size in
    let xs = c.args.numbers.now in
    let lines = flat_map batch_line (full_batches (Some n) [] xs) in
    let room : length c.args.text.now ≡ 2816 = search rules in
    let none : drop 2816 c.args.text.now ≡ [] = nil_from_length _ (length-drop 2816 c.args.text.now ∙ omega (arith, room)) in
    let whole : c.split_at.result.0.now ≡ take (length xs - length xs % n) xs = search rules in
    let same : flat_map batch_line (full_batches (Some n) [] c.split_at.result.0.now) ≡ lines =
    ap (λ zs. flat_map batch_line (full_batches (Some n) [] zs)) whole ∙ sym (ap (flat_map batch_line) (full_batches-before n xs c.requires.some)) in
    let is : drop c.place_lines-start.result c.place_lines-start.new.text ≡ lines =
    c.place_lines-start.ensures.placed ∙ ap (λ z. z ++ drop 2816 c.args.text.now) same ∙ ap (λ z. lines ++ z) none ∙ append-nil lines in
    writes-as _ _ _ _ _ is c.write_from-2.ensures
