use Rattle.std.proofs.Common.{◌∙◌, [], subst, arith}
use Rattle.plinq_source.specs.Trace.{IsSourceEnding}
use Rattle.plinq_partition.specs.Partitions.{AreMadeFrom, Holding}
use Rattle.plinq_cli.proofs.HandedOut.{all-made-open, done-origin, done-shares}
use Rattle.plinq_cli.proofs.rounds.drive_partitions.Goals as goal

pub take_turns-requires-after_bounds : goal.take_turns-requires-after_bounds
take_turns-requires-after_bounds g c κs within =
    let start : Holding _ = record { origin = g.S.Source.whole c.args.source; share = []; requests = 0 } in
    let ends : IsSourceEnding (g.S.Source.whole c.args.source).ending =
    (g.met.S.Source g.world.𝓛 g.world.𝓜 g.world.𝓡 (λ s a. a, λ a. a, λ a. a, λ a. a)).ends c.args.source in
    let made : AreMadeFrom start c.in-Ok.partitions.items =
    subst (λ h. AreMadeFrom h c.in-Ok.partitions.items) c.in_ok-chunked.ensures.partition c.in-Ok.ensures.made in
    (all-made-open c.in_ok-chunked.chunked start c.in-Ok.partitions.items ends c.in-Ok.ensures.of made).0

pub returns-in-Ok-give_back-clause-origin : goal.returns-in-Ok-give_back-clause-origin
returns-in-Ok-give_back-clause-origin g c =
    let start : Holding _ = record { origin = g.S.Source.whole c.args.source; share = []; requests = 0 } in
    let ends : IsSourceEnding (g.S.Source.whole c.args.source).ending =
    (g.met.S.Source g.world.𝓛 g.world.𝓜 g.world.𝓡 (λ s a. a, λ a. a, λ a. a, λ a. a)).ends c.args.source in
    let made : AreMadeFrom start c.in-Ok.partitions.items =
    subst (λ h. AreMadeFrom h c.in-Ok.partitions.items) c.in_ok-chunked.ensures.partition c.in-Ok.ensures.made in
    let origin = (all-made-open c.in_ok-chunked.chunked start c.in-Ok.partitions.items ends c.in-Ok.ensures.of made).1 in
    let count = c.in_ok-done.ensures.count in
    let degree = c.in-Ok.ensures.count in
    let some = c.requires.some in
    c.in-Ok-give_back.ensures.whole.0 ∙ (done-origin c.in_ok-chunked.chunked _ c.in_ok-done.done.items (omega arith) c.in_ok-done.ensures.done ∙ origin)

pub returns-in-Ok-give_back-clause-shares : goal.returns-in-Ok-give_back-clause-shares
returns-in-Ok-give_back-clause-shares g c =
    done-shares c.in_ok-chunked.chunked _ c.args.degree c.args.growth c.in_ok-done.done.items _ (c.in_ok-done.ensures.count ∙ c.in-Ok.ensures.count)
    c.in_ok-chunked.ensures.growth c.in_ok-done.ensures.done c.in-Ok-give_back.ensures.whole.1
