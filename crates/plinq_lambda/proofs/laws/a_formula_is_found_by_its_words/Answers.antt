use Rattle.plinq_lambda.proofs.Words.{formula_named-own, formula_named-has}
use Rattle.plinq_lambda.proofs.laws.a_formula_is_found_by_its_words.Goals as goal

pub returns-clause-found : goal.returns-clause-found
returns-clause-found c = formula_named-own

pub returns-clause-alone : goal.returns-clause-alone
returns-clause-alone c = formula_named-has
