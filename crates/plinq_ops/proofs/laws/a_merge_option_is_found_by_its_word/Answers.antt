use Rattle.plinq_ops.proofs.MergeWords.{merge_named-own, merge_named-has}
use Rattle.plinq_ops.proofs.laws.a_merge_option_is_found_by_its_word.Goals as goal

pub returns-clause-found : goal.returns-clause-found
returns-clause-found c = merge_named-own

pub returns-clause-alone : goal.returns-clause-alone
returns-clause-alone c = merge_named-has
