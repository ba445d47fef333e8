-- the line ends where the array does
use Rattle.std.proofs.Common.{rules, ◌≡◌, [], ◌++◌, length, drop, ap, ◌∙◌, append-nil, length-drop, arith}
use Rattle.std.proofs.lemmas.List.{nil_from_length}
use Rattle.plinq_lines.specs.AnswerText.{batch_line}
use Rattle.plinq_lines.proofs.WrittenBytes.{writes-as}
use Rattle.plinq_lines.proofs.batch_lines.write_batch_by.Goals as goal

pub returns : goal.returns
returns g c =
    let line = batch_line c.args.batch.now in
    let room : length c.args.text.now ≡ 2816 = search rules in
    let none : drop 2816 c.args.text.now ≡ [] = nil_from_length _ (length-drop 2816 c.args.text.now ∙ omega (arith, room)) in
    let is : drop c.place_line-start.result c.place_line-start.new.text ≡ line =
    c.place_line-start.ensures.placed ∙ ap (λ z. line ++ z) none ∙ append-nil line in
    writes-as _ _ _ _ _ is c.write_from.ensures
