use Rattle.plinq_merge_tests.proofs.on_one_thread.lend.Goals as goal

pub returns : goal.returns
returns c = c.reuse.ensures.of c.args.chunked.now c.requires
