use Rattle.plinq_closures.proofs.chain_queries.+with_steps.Given as goal

abbrev pub decreases-with_steps : goal.decreases-with_steps
decreases-with_steps g l = l.count
