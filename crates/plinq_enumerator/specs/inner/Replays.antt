-- What a replay of the code stands for.
use Rattle.std.specs.Prelude.{Bool, true, false}
use Rattle.plinq_keyed.specs.declared.event.Event.{Event}
use Rattle.plinq_keyed.specs.declared.event.Event.TheVariants.{Ask, Close}
use Rattle.plinq_keyed.specs.History.{Place}
use Rattle.plinq_enumerator.specs.declared.replay.Replay.{Replay}

abbrev pub place_of : Replay → Place
place_of s = record { given = s.given; closed = s.closed }

-- whether that request closes
abbrev pub is_close : Event → Bool
is_close (Ask n) = false
is_close Close = true
