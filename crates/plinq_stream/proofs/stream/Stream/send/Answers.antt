use Rattle.std.proofs.Common.{◌≡◌, true, sym, subst}
use Rattle.plinq_stream.specs.Passes.{knowledge_of}
use Rattle.plinq_stream.specs.Streams.{has}
use Rattle.plinq_stream.proofs.Steps.{sends}
use Rattle.plinq_stream.proofs.stream.Stream.send.Goals as goal

pub try_push_as-requires-clause-rule : goal.try_push_as-requires-clause-rule
try_push_as-requires-clause-rule g c =
    let is = c.loop.invariant.waiting in
    let own = subst (λ a. has c.args.number a.numbers ≡ true) (sym c.loop.invariant.known) c.requires.own in
    sends g.C.Admits.admits _ _ _ c.loop.waiting (subst (λ s. has s.number (knowledge_of c.loop.pass).numbers ≡ true) (sym is) own)
    (subst (λ s. g.C.Admits.admits s.item) (sym is) c.requires.carried)
