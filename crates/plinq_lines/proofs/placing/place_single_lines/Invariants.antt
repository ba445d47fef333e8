use Rattle.std.proofs.Common.{◌≡◌, ◌*◌, ◌≤◌, ◌++◌, length, drop}
use Rattle.std.specs.List.{flat_map}
use Rattle.plinq_lines.specs.AnswerText.{single_line}
use Rattle.plinq_lines.proofs.placing.place_single_lines.Given as goal

-- the numbers that are left, in front of those that are placed, are all of them
abbrev pub invariant-loop-x : goal.invariant-loop-x
invariant-loop-x l = record {
  room : 21 * length l.rest ≤ l.at;
  below : l.at ≤ l.end;
  placed : flat_map single_line l.rest ++ drop l.at l.text ≡ flat_map single_line l.numbers ++ drop l.end l.initial.text;
}

abbrev pub decreases-loop-x : goal.decreases-loop-x
decreases-loop-x l = length l.rest
