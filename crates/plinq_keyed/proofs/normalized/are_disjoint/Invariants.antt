use Rattle.std.proofs.Common.{◌≡◌, ◌+◌, ◌-◌, drop, length, true}
use Rattle.plinq_keyed.specs.Keys.{keys, rises}
use Rattle.plinq_keyed.specs.inner.Sweeps.{are_disjoint}
use Rattle.plinq_keyed.proofs.normalized.are_disjoint.Given as goal

abbrev pub invariant-loop-at : goal.invariant-loop-at
invariant-loop-at g l = record {
  rest : are_disjoint (keys (drop l.at l.left)) (keys (drop l.by l.right)) ≡ are_disjoint (keys l.left) (keys l.right);
  left : rises (keys (drop l.at l.left)) ≡ true;
  right : rises (keys (drop l.by l.right)) ≡ true;
}

abbrev pub decreases-loop-at : goal.decreases-loop-at
decreases-loop-at g l = (length l.left - l.at) + (length l.right - l.by)
