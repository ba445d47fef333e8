-- The closure is called with what the steps do.
use Rattle.std.proofs.Common.{◌∙◌, subst, sym}
use Rattle.plinq_closures.specs.Asked.{LacksRoomOrRefused}
use Rattle.plinq_closures.proofs.Asked.{called-sequentially, lacks-called, no-room}
use Rattle.plinq_closures.proofs.chain_sequentially.Sequentially.for_each.Goals as goal

pub returns-in-Ok-clause-calls : goal.returns-in-Ok-clause-calls
returns-in-Ok-clause-calls g c ops does =
    called-sequentially _ _ c.in-Ok.query.ops ops (c.in-Ok.ensures.ops ops does) (g.Src.Source.whole c.args.source) _ c.for_each.result c.chain_outcome.result _
    c.chain_outcome.ensures c.for_each.ensures.calls

pub returns-in-Ok-clause-uncalled : goal.returns-in-Ok-clause-uncalled
returns-in-Ok-clause-uncalled g c is = c.for_each.ensures.uncalled (no-room c.for_each.result (sym c.chain_outcome.ensures ∙ is))

pub returns-in-Ok-clause-memory : goal.returns-in-Ok-clause-memory
returns-in-Ok-clause-memory g c =
    subst LacksRoomOrRefused (sym c.chain_outcome.ensures) (lacks-called c.for_each.result c.for_each.ensures.memory)
