use Rattle.std.proofs.Common.{◌≡◌, ◌+◌, ◌*◌, ◌≤◌, ◌++◌, length, drop}
use Rattle.std.specs.List.{flat_map}
use Rattle.plinq_lines.specs.AnswerText.{further_number}
use Rattle.plinq_lines.proofs.placing.place_further_numbers.Given as goal

-- the numbers that are left, in front of those that are placed, are all of them
abbrev pub invariant-loop-x : goal.invariant-loop-x
invariant-loop-x l = record {
  room : 21 * length l.rest ≤ l.at;
  below : l.at ≤ l.end;
  short : l.end + 21 * length l.rest ≤ l.at + 21 * length l.numbers;
  placed : flat_map further_number l.rest ++ drop l.at l.text ≡ flat_map further_number l.numbers ++ drop l.end l.initial.text;
}

abbrev pub decreases-loop-x : goal.decreases-loop-x
decreases-loop-x l = length l.rest
