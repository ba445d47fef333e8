use Rattle.std.proofs.Common.{◌≡◌, drop}
use Rattle.plinq_cli.specs.Rounds.{told_ending}
use Rattle.plinq_cli.proofs.rounds.told_ending.Given as goal

abbrev pub invariant-loop-entry : goal.invariant-loop-entry
invariant-loop-entry l = told_ending (drop l.entry-index l.records) ≡ told_ending l.records
