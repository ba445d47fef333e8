use Rattle.std.proofs.Common.{◌≡◌, ℕ, All, List, take}
use Rattle.plinq_text.specs.inner.Ready.{IsReady, row_ready}
use Rattle.plinq_text.specs.Steady.{row_steady}
use Rattle.plinq_text.proofs.ready.ready.Given as goal

abbrev pub invariant-loop-i : goal.invariant-loop-i
invariant-loop-i l = record {
  same : (text : List ℕ) → row_ready l.made.items text ≡ row_steady (take l.i l.steps) text;
  ready : All IsReady l.made.items;
}
