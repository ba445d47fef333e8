use Rattle.std.proofs.Common.{◌≡◌, ℕ, ◌*◌, ◌≤◌, ◌++◌, [], Some, length, drop}
use Rattle.std.specs.List.{flat_map}
use Rattle.plinq_ops.specs.Batches.{full_batches}
use Rattle.plinq_lines.specs.AnswerText.{batch_line}
use Rattle.plinq_lines.proofs.placing.place_lines.Given as goal

-- the lines that are left, in front of those that are placed, are all of them
abbrev pub invariant-loop-rest : goal.invariant-loop-rest
invariant-loop-rest l = record {
  whole : (k : ℕ) × (length l.rest ≡ k * l.size);
  room : 22 * length l.rest ≤ l.at;
  below : l.at ≤ l.end;
  same : length l.text ≡ length l.initial.text;
  placed : flat_map batch_line (full_batches (Some l.size) [] l.rest) ++ drop l.at l.text
      ≡ flat_map batch_line (full_batches (Some l.size) [] l.numbers) ++ drop l.end l.initial.text;
}

abbrev pub decreases-loop-rest : goal.decreases-loop-rest
decreases-loop-rest l = length l.rest
