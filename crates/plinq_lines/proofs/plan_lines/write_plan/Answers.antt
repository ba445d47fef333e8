-- the three settings, the worker part and the part after it, one after another
use Rattle.std.proofs.Common.{◌≡◌, ℕ, List, ◌++◌, codes, refl}
use Rattle.plinq_lambda.specs.declared.formula.Formula.{Formula}
use Rattle.plinq_ops.specs.declared.merge_option.MergeOption.{MergeOption}
use Rattle.plinq_ops.specs.declared.op.Op.{Op}
use Rattle.plinq_ops.specs.declared.order.Order.{Order}
use Rattle.plinq_ops.specs.Query.{QueryView, merge_in_force, degree_in_force}
use Rattle.plinq_ops.specs.Plan.{worker_part, after_part, order_of}
use Rattle.plinq_lines.specs.OpWords.{part_words}
use Rattle.plinq_lines.specs.PlanText.{settings_text, plan_text}
use Rattle.plinq_lines.specs.AnswerText.{line}
use Rattle.plinq_lines.proofs.PartWritten.{none-written, piece-failed, piece-written, rest-writes}
use Rattle.plinq_lines.proofs.plan_lines.write_plan.Goals as goal

abbrev part_line : List ℕ → List (Op Formula) → List ℕ
part_line name ops = line (name ++ part_words ops)

parts : (q : QueryView Formula) (n : ℕ) (option : MergeOption) (order : Order) (worker after : List (Op Formula))
    → n ≡ degree_in_force q.degree → option ≡ merge_in_force q.merge → order ≡ order_of q.ordered → worker ≡ worker_part (order_of q.ordered) q.ops
    → after ≡ after_part (order_of q.ordered) q.ops
    → plan_text q ≡ settings_text n option order ++ (part_line (codes "worker ") worker ++ part_line (codes "after ") after)
parts q n option order worker after degree merge ordered first rest = rw (degree, merge, ordered, first, rest) refl

pub returns-in_err-write_settings : goal.returns-in_err-write_settings
returns-in_err-write_settings g c =
    let plan = c.split-plan.ensures.plan in
    let all = parts c.args.query.now _ _ _ _ _ c.degree.ensures.value c.merge_option.ensures plan.order plan.worker plan.after in
    piece-failed _ _ _ _ (none-written _ _) all c.from_residual.ensures.0 c.in_err-write_settings.ensures

pub returns-in_err-write_part : goal.returns-in_err-write_part
returns-in_err-write_part g c =
    let plan = c.split-plan.ensures.plan in
    let all = parts c.args.query.now _ _ _ _ _ c.degree.ensures.value c.merge_option.ensures plan.order plan.worker plan.after in
    let after = part_line (codes "after ") c.split-plan.result.after.now in
    piece-failed _ _ _ after (piece-written _ _ _ (none-written _ _) all c.in_ok-write_settings.ensures)
    refl c.from_residual-in_err-write_part.ensures.0 c.in_err-write_part.ensures

pub returns : goal.returns
returns g c =
    let plan = c.split-plan.ensures.plan in
    let all = parts c.args.query.now _ _ _ _ _ c.degree.ensures.value c.merge_option.ensures plan.order plan.worker plan.after in
    let after = part_line (codes "after ") c.split-plan.result.after.now in
    rest-writes _ _ after
    (piece-written _ _ after (piece-written _ _ _ (none-written _ _) all c.in_ok-write_settings.ensures) refl c.in_ok-write_part.ensures)
    refl c.write_part-2.ensures
