-- the name with the first operator, and those after it with the line feed
use Rattle.std.proofs.Common.{◌≡◌, ℕ, List, ◌∷◌, ◌++◌, refl, ap, ◌∙◌, append_assoc}
use Rattle.std.specs.List.{flat_map}
use Rattle.plinq_lambda.specs.declared.formula.Formula.{Formula}
use Rattle.plinq_ops.specs.declared.op.Op.{Op}
use Rattle.plinq_lines.specs.OpWords.{op_words, further_op, part_words}
use Rattle.plinq_lines.specs.AnswerText.{line}
use Rattle.plinq_lines.proofs.PartWritten.{none-written, piece-failed, piece-written, rest-writes}
use Rattle.plinq_lines.proofs.op_words.write_part.Goals as goal

parts : (name : List ℕ) (ops : List (Op Formula)) (first : Op Formula) (further : List (Op Formula)) → ops ≡ first ∷ further
    → line (name ++ part_words ops) ≡ (name ++ op_words first) ++ line (flat_map further_op further)
parts name ops first further is = ap (λ os. line (name ++ part_words os)) is ∙ simp append_assoc

pub returns-in_err-write_op : goal.returns-in_err-write_op
returns-in_err-write_op g c =
    piece-failed _ _ _ _ (none-written _ _) (parts c.args.name.now _ _ _ c.in-Some.ensures.cases.0) c.from_residual.ensures.0 c.in_err-write_op.ensures

pub returns : goal.returns
returns g c =
    rest-writes _ _ _ (piece-written _ _ _ (none-written _ _) (parts c.args.name.now _ _ _ c.in-Some.ensures.cases.0) c.in_ok-write_op.ensures)
    refl c.write_further_ops.ensures
