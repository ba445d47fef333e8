use Rattle.plinq_stream.specs.Passes.{knowledge_of}
use Rattle.plinq_stream.proofs.Steps.{comes, has_come, all-come}
use Rattle.plinq_stream.proofs.stream.Stream.receive.Goals as goal

pub pop_as-received-requires-clause-rule : goal.pop_as-received-requires-clause-rule
pop_as-received-requires-clause-rule g c = (comes g.C.Admits.admits _ _ c.requires.receives, has_come g.C.Admits.admits _ _ c.requires.receives)

pub returns-clause-all : goal.returns-clause-all
returns-clause-all g c =
    all-come _ (knowledge_of c.args.pass.now) (knowledge_of (record { pass = c.pop_as-received.new.pass })) c.pop_as-received.result
    c.pop_as-received.ensures.rule
