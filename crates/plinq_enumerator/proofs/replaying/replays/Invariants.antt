use Rattle.std.proofs.Common.{◌≡◌, ◌≤◌, ◌<◌, ◌^◌, ◌&&◌, Some, drop, map}
use Rattle.plinq_keyed.specs.Keys.{rises_from}
use Rattle.plinq_keyed.specs.History.{is_run, is_legal_history, some_source}
use Rattle.plinq_enumerator.specs.inner.Replays.{place_of}
use Rattle.plinq_enumerator.proofs.replaying.replays.Given as goal

abbrev pub invariant-loop-entry : goal.invariant-loop-entry
invariant-loop-entry l = record {
  rest :
      (is_run (some_source l.len (Some l.ending)) (place_of l.replay) (drop l.entry-index l.records)
      && rises_from l.least (map (λ r. r.ticket) (drop l.entry-index l.records)))
      ≡ is_legal_history (some_source l.len (Some l.ending)) l.records;
  small : l.least < 2 ^ 65;
  within : l.replay.given ≤ l.len;
}
