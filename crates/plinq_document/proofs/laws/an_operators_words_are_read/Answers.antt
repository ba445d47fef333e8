use Rattle.std.proofs.Common.{refl}
use Rattle.plinq_document.proofs.Printed.{call_from-printed, call_from-read, call_from-first}
use Rattle.plinq_document.proofs.laws.an_operators_words_are_read.Goals as goal

pub returns-clause-read : goal.returns-clause-read
returns-clause-read c = call_from-printed

pub returns-clause-alone : goal.returns-clause-alone
returns-clause-alone c = call_from-read

pub returns-clause-first : goal.returns-clause-first
returns-clause-first c = call_from-first

pub returns-clause-later : goal.returns-clause-later
returns-clause-later c = λ f. refl
