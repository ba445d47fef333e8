-- What becomes of a held value that is changed.
use Rattle.std.specs.Borrow.{Lends, MutBor, Fml}
use denote.RattleType.{RattleType}
use Rattle.plinq_ticket.specs.declared.held.Entry.{Entry}
use Rattle.plinq_ticket.specs.contracts.held.Entry.{the_row}

-- the same, with another value
abbrev pub with_value : {V T : Type 0} → Entry V T → V → Entry V T
with_value h value = record { stay = h.stay; value = value }

-- h ends with the last value after r
abbrev pub LendsValue : (V T : RattleType) → MutBor (Entry V.Denot T.Denot) → MutBor V.Denot → Fml
LendsValue V T h r = Lends (the_row V T) V h r (with_value h.now)
