use Rattle.std.proofs.Common.{◌≡◌, length, ◌-◌, None}
use Rattle.plinq_ops.specs.Feeding.{IsFed}
use Rattle.plinq_ops.specs.Pipeline.{stages}
use Rattle.plinq_ops.specs.Sequential.{first_items}
use Rattle.plinq_ops.proofs.answering.feed_all.Given as goal

-- the items given so far were fed, and left the run open
abbrev pub invariant-loop-ending : goal.invariant-loop-ending
invariant-loop-ending g l =
    (g.S.Source.whole l.source ≡ g.S.Source.whole l.fn.source)
    × IsFed (stages g.L.Lambda.meaning l.fn.pipeline) (first_items (g.S.Source.given l.source) (g.S.Source.whole l.fn.source))
    l.fn.out.items l.out.items (stages g.L.Lambda.meaning l.pipeline) None

abbrev pub decreases-loop-ending : goal.decreases-loop-ending
decreases-loop-ending g l = length (g.S.Source.whole l.source).items - g.S.Source.given l.source
