-- An item is there where one passes that equals it.
use Rattle.std.specs.Prelude.{Ok}
use Rattle.std.proofs.Common.{rules}
use Rattle.plinq_closures.proofs.chain_sequentially.Sequentially.contains.Goals as goal

pub returns-clause-value : goal.returns-clause-value
returns-clause-value g c ops does = c.any_that.ensures.value ops (λ x. Ok (g.S.Item.PartialEq.eq x c.args.item)) does (λ x. search rules)
