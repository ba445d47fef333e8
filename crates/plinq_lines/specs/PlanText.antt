-- The lines that the program prints of a query's plan.
use Rattle.std.specs.Prelude.{◌≡◌, ℕ, pos, List, [], ◌∷◌, ◌++◌, true, Some, codes, decimal, refl}
use Rattle.std.specs.Fmt.{digits}
use Rattle.plinq_lambda.specs.declared.formula.Formula.{Formula}
use Rattle.plinq_lambda.specs.declared.formula.Formula.TheVariants.{Add, Even}
use Rattle.plinq_ops.specs.declared.merge_option.MergeOption.{MergeOption}
use Rattle.plinq_ops.specs.declared.merge_option.MergeOption.TheVariants.{NotBuffered}
use Rattle.plinq_ops.specs.declared.op.Op.TheVariants.{Select, Filter, Take}
use Rattle.plinq_ops.specs.declared.order.Order.{Order}
use Rattle.plinq_ops.specs.declared.order.Order.TheVariants.{ByKey, ByArrival}
use Rattle.plinq_ops.specs.Query.{QueryView, empty_query, merge_in_force, degree_in_force}
use Rattle.plinq_ops.specs.MergeWords.{merge_name}
use Rattle.plinq_ops.specs.Plan.{worker_part, after_part, order_of}
use Rattle.plinq_lines.specs.AnswerText.{line}
use Rattle.plinq_lines.specs.OpWords.{part_words}

-- how results are merged, in a word
abbrev pub order_name : Order → List ℕ
order_name ByKey = codes "key"
order_name ByArrival = codes "arrival"

-- the degree, the merge option and the order, a line each
abbrev pub settings_text : ℕ → MergeOption → Order → List ℕ
settings_text degree option order =
    line (codes "workers " ++ decimal degree) ++ (line (codes "merge " ++ merge_name option) ++ line (codes "order " ++ order_name order))

-- the settings in force, the worker part and the part after it
abbrev pub plan_text : QueryView Formula → List ℕ
plan_text q =
    settings_text (degree_in_force q.degree) (merge_in_force q.merge) (order_of q.ordered)
    ++ (line (codes "worker " ++ part_words (worker_part (order_of q.ordered) q.ops))
    ++ line (codes "after " ++ part_words (after_part (order_of q.ordered) q.ops)))

-- ---- worked rows

pub five_lines : plan_text (record empty_query {
  degree = Some 4;
  ordered = true;
  ops = Select (Add (pos 1)) ∷ Take (pos 5) ∷ Filter Even ∷ Take (pos 2) ∷ [];
})
    ≡ codes "workers 4\nmerge auto\norder key\nworker select add 1, take 5, filter even\nafter take 2\n"
unfolding digits
five_lines = refl

pub no_operators : plan_text (record empty_query { degree = Some 1; merge = Some NotBuffered; ordered = true })
    ≡ codes "workers 1\nmerge not\norder key\nworker none\nafter none\n"
unfolding digits
no_operators = refl
