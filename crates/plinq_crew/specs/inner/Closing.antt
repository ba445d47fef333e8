-- How far the closing of the source has come.
use Rattle.std.specs.Prelude.{◌≡◌, List, Bool, true, false}
use Rattle.plinq_keyed.specs.declared.record.Record.{Record}
use Rattle.plinq_crew.specs.Working.{HasClosed}
use Rattle.plinq_crew.specs.declared.closing.Closing.{Closing}
use Rattle.plinq_crew.specs.declared.closing.Closing.TheVariants.{Open, Wanted, Closed}

-- what comes is dropped
abbrev pub wants_close : Closing → Bool
wants_close Open = false
wants_close Wanted = true
wants_close Closed = true

abbrev pub is_closed : Closing → Bool
is_closed Open = false
is_closed Wanted = false
is_closed Closed = true

-- where the source is closed, one of this share's records has closed it: where that was so before, it is so after
abbrev pub StaysClosed : Closing → List Record → Closing → List Record → Type 0
StaysClosed before share after share' = (is_closed before ≡ true → HasClosed share) → is_closed after ≡ true → HasClosed share'
