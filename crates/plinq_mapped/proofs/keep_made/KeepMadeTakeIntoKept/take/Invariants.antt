use Rattle.std.proofs.Common.{Ok, None}
use Rattle.plinq_mapped.specs.inner.Keeping.{Keeps}
use Rattle.plinq_mapped.specs.Making.{parts_joined}
use Rattle.plinq_mapped.proofs.keep_made.KeepMadeTakeIntoKept.take.Given as goal

abbrev pub invariant-loop-part : goal.invariant-loop-part
invariant-loop-part g l = Keeps l.fn.out.items.items (parts_joined l.yielded None) (Ok None) l.out.items.items
