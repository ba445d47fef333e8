-- What an enumerator holds: its source, and the records of all requests so far.
use Rattle.std.specs.Prelude.{List}
use Rattle.plinq_source.specs.declared.source.Source.{Ghosts}
use Rattle.plinq_keyed.specs.declared.record.Record.{Record}
use Rattle.plinq_enumerator.specs.declared.enumerator.Enumerator.{Enumerator}

abbrev pub held_source : {S T : Type 0} {source : Ghosts S T} → Enumerator S T source → S
held_source e = e.source

abbrev pub held_records : {S T : Type 0} {source : Ghosts S T} → Enumerator S T source → List Record
held_records e = e.records.items
