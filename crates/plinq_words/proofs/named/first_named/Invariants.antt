-- none before the rest has the name
use Rattle.std.proofs.Common.{◌≡◌, length}
use Rattle.plinq_words.specs.Named.{first_named}
use Rattle.plinq_words.proofs.named.first_named.Given as goal

abbrev pub invariant-loop-first : goal.invariant-loop-first
invariant-loop-first g l = first_named g.T.Named.its_name l.rest l.fn.name ≡ first_named g.T.Named.its_name l.fn.all l.fn.name

abbrev pub decreases-loop-first : goal.decreases-loop-first
decreases-loop-first g l = length l.rest
