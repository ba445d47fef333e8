-- An item is there where one passes that equals it.
use Rattle.std.specs.Prelude.{Ok}
use Rattle.std.proofs.Common.{rules}
use Rattle.plinq_closures.proofs.chain.Chain.contains.Goals as goal

pub returns-clause-answer : goal.returns-clause-answer
returns-clause-answer g c ops does = c.any_that.ensures.answer ops (λ x. Ok (g.S.Item.PartialEq.eq x c.args.item)) does (λ x. search rules)
