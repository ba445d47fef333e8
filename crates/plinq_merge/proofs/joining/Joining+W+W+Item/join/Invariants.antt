use Rattle.std.proofs.Common.{ℕ, ◌≡◌, ◌||◌, true, length}
use Rattle.plinq_ops.specs.Tails.{end_of_result}
use Rattle.plinq_reorder.specs.{Intervals.is_within, Buffered.is_taken}
use Rattle.plinq_merge.specs.inner.Moving.{HasMoved}
use Rattle.plinq_merge.proofs.joining.Joining+W+W+Item.join.Given as goal

abbrev pub invariant-loop-ending : goal.invariant-loop-ending
invariant-loop-ending g l =
    record {
      ready : g.W.Taker.can_take l.self.taker ≡ true;
      moves : HasMoved g.W.TakeInto.made l.fn.self l.fn.offered l.fn.out l.part l.self l.out;
      keys : (key : ℕ) → is_taken l.self.row.buffer key ≡ (is_taken l.fn.self.row.buffer key || is_within l.fn.offered.first (end_of_result l.fn.offered) key);
    }

abbrev pub decreases-loop-ending : goal.decreases-loop-ending
decreases-loop-ending g l = length l.self.row.buffer.held
