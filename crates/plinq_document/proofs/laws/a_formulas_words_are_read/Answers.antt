use Rattle.plinq_document.proofs.Printed.{formula_of-printed, formula_of-read}
use Rattle.plinq_document.proofs.laws.a_formulas_words_are_read.Goals as goal

pub returns-clause-read : goal.returns-clause-read
returns-clause-read c = formula_of-printed

pub returns-clause-alone : goal.returns-clause-alone
returns-clause-alone c = formula_of-read
