use Rattle.plinq_ops.proofs.Operators.{op_named-own, op_named-has}
use Rattle.plinq_ops.proofs.laws.an_operator_is_found_by_its_words.Goals as goal

pub returns-clause-found : goal.returns-clause-found
returns-clause-found c = op_named-own

pub returns-clause-alone : goal.returns-clause-alone
returns-clause-alone c = op_named-has
