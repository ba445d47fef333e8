-- What the records of a run say that the source has handed out.
use Rattle.std.specs.Prelude.{◌≡◌, refl, ℕ, List, [], ◌∷◌, map, Bool, true, false, if◌then◌else◌, Option, Some, None}
use Rattle.std.specs.List.{list_any}
use Rattle.plinq_source.specs.declared.ending.Ending.TheVariants.{End, Refused as RefusedWith}
use Rattle.plinq_source.specs.Trace.{Trace, ended_trace, open_trace}
use Rattle.plinq_keyed.specs.declared.event.Event.{Event}
use Rattle.plinq_keyed.specs.declared.event.Event.TheVariants.{Ask, Close}
use Rattle.plinq_keyed.specs.declared.record.Record.{Record}
use Rattle.plinq_keyed.specs.declared.tail.Tail.{Tail}
use Rattle.plinq_keyed.specs.declared.tail.Tail.TheVariants.{Ended, Refused, Closed}
use Rattle.plinq_keyed.specs.History.{handed_out}

-- whether a tail says how the source ended
abbrev pub is_end : Option Tail → Bool
is_end None = false
is_end (Some Ended) = true
is_end (Some (Refused code)) = true
is_end (Some Closed) = false

-- whether a request is one to close
abbrev pub is_close : Event → Bool
is_close (Ask n) = false
is_close Close = true

-- whether some record says how the source ended
abbrev pub tells_end : List Record → Bool
tells_end h = list_any (λ r. is_end r.tail) h

-- whether the source was closed
abbrev pub has_close : List Record → Bool
has_close h = list_any (λ r. is_close r.asked) h

-- the items that records hand out, with the source's ending where one of them gives it
abbrev pub handed_trace : {T : Type 0} → Trace T → List Record → Trace T
handed_trace t h = record { items = map (λ x. x.value) (handed_out t h); ending = if tells_end h then t.ending else None }

-- two requests for one item each, the second answered so
abbrev two_requests : ℕ → Option Tail → List Record
two_requests count tail =
    record { ticket = 0; asked = Ask 1; first = 0; count = 1; tail = None }
    ∷ record { ticket = 1; asked = Ask 1; first = 1; count = count; tail = tail }
    ∷ []

-- that there is no third item isn't known from the first two
first_of_three : handed_trace {T = ℕ} (ended_trace (3 ∷ 1 ∷ 4 ∷ []) End) (two_requests 1 None) ≡ open_trace (3 ∷ 1 ∷ [])
first_of_three = refl

told_by_the_tail : handed_trace {T = ℕ} (ended_trace (3 ∷ []) End) (two_requests 0 (Some Ended)) ≡ ended_trace (3 ∷ []) End
told_by_the_tail = refl

closed_tells_nothing : handed_trace {T = ℕ} (ended_trace (3 ∷ []) End) (two_requests 0 (Some Closed)) ≡ open_trace (3 ∷ [])
closed_tells_nothing = refl

told_by_a_refusal : handed_trace {T = ℕ} (ended_trace (3 ∷ []) (RefusedWith 7)) (two_requests 0 (Some (Refused 7))) ≡ ended_trace (3 ∷ []) (RefusedWith 7)
told_by_a_refusal = refl

nothing_was_asked : handed_trace {T = ℕ} (ended_trace [] End) [] ≡ open_trace []
nothing_was_asked = refl

-- an answer that the source is closed isn't the request that closed it
asked_of_a_closed_one : has_close (two_requests 0 (Some Closed)) ≡ false
asked_of_a_closed_one = refl

closed_by_a_request : has_close (record { ticket = 0; asked = Close; first = 0; count = 0; tail = Some Closed } ∷ []) ≡ true
closed_by_a_request = refl
