-- What was read stands before what is left, and each read so far gave a byte or more.
use Rattle.std.proofs.Common.{◌≤◌, vec_len}
use Rattle.std.specs.Io.KnownBytes.{Consumes}
use Rattle.plinq_cli.proofs.input.read_pieces.Given as goal

abbrev pub invariant-loop : goal.invariant-loop
invariant-loop g l = record {
  read : Consumes (g.R.Read.remaining l.fn.reader) (g.R.Read.remaining l.reader) l.bytes.items;
  each : l.counter ≤ vec_len l.bytes;
  few : vec_len l.bytes ≤ 16777216;
}
