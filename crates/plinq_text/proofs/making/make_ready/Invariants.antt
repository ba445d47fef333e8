use Rattle.std.proofs.Common.{◌≡◌, ℕ, Bool, List, length}
use Rattle.plinq_text.specs.inner.Ready.{row_ready}
use Rattle.plinq_text.specs.Lines.{lines_of}
use Rattle.plinq_text.specs.Steady.{AreMade, made_steady}
use Rattle.plinq_text.proofs.making.make_ready.Given as goal

abbrev pub invariant-loop-line : goal.invariant-loop-line
invariant-loop-line l = record {
  made : (new : List ℕ) (stay : Bool) → AreMade (made_steady (row_ready l.fn.steps) (lines_of l.rest)) l.out.items new stay
      → AreMade (made_steady (row_ready l.fn.steps) (lines_of l.text)) l.fn.out.items new stay;
  steps : l.steps ≡ l.fn.steps;
}

abbrev pub decreases-loop-line : goal.decreases-loop-line
decreases-loop-line l = length l.rest
