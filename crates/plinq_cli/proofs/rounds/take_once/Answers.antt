use Rattle.plinq_cli.proofs.PartitionTurns.{open-taken, done-taken}
use Rattle.plinq_cli.proofs.rounds.take_once.Goals as goal

pub returns-clause-goes_on : goal.returns-clause-goes_on
returns-clause-goes_on g c =
    open-taken c.args.chunked.now c.args.partition.now c.try_take.new.self c.in_ok-chunk.chunk c.requires c.in_ok-chunk.ensures.of c.in_ok-chunk.ensures.taken

pub returns-clause-done : goal.returns-clause-done
returns-clause-done g c =
    done-taken c.args.chunked.now c.args.partition.now c.try_take.new.self c.in_ok-chunk.chunk c.requires c.in_ok-chunk.ensures.of c.in_ok-chunk.ensures.taken
