-- What an enumerator answers, and which histories of requests and answers are legal.
use Rattle.std.specs.Prelude.{◌≡◌, ℕ, ◌+◌, ◌-◌, ◌≤◌, ◌==◌, List, [], ◌∷◌, ◌++◌, length, take, map, replicate, Option, Some, None, Bool, true, false, ◌&&◌}
use Rattle.std.specs.Prelude.{nat_lt, if◌then◌else◌, get_or, refl}
use Rattle.std.proofs.Common.{arith, ap}
use Rattle.std.specs.List.{list_all}
use Rattle.plinq_source.specs.Trace.{Trace, ended_trace, items_from}
use Rattle.plinq_source.specs.declared.ending.Ending.{Ending}
use Rattle.plinq_source.specs.declared.ending.Ending.TheVariants.{End, Refused, Fault}
use Rattle.plinq_keyed.specs.Keys.{rises, keys, keyed_from}
use Rattle.plinq_keyed.specs.declared.keyed.Keyed.{Keyed}
use Rattle.plinq_keyed.specs.declared.chunk.Chunk.{Chunk}
use Rattle.plinq_keyed.specs.declared.tail.Tail.{Tail}
use Rattle.plinq_keyed.specs.declared.tail.Tail.TheVariants.{Ended, Refused as TailRefused, Closed}
use Rattle.plinq_keyed.specs.declared.event.Event.{Event}
use Rattle.plinq_keyed.specs.declared.event.Event.TheVariants.{Ask, Close}
use Rattle.plinq_keyed.specs.declared.record.Record.{Record}

-- where an enumerator stands: how many items it has handed out, and whether it was closed
pub record Place : Type 0 where
  pub given : ℕ
  pub closed : Bool

-- at the start nothing was handed out and it is not closed
abbrev pub start : Place
start = record { given = 0; closed = false }

-- the answer to a request: the place of the first item, the items, and the tail where they are the last
pub record Reply (T : Type 0) : Type 0 where
  pub first : ℕ
  pub items : List T
  pub tail : Option Tail

-- how the source ends, as a tail; no source ends with a fault
abbrev pub ending_tail : Option Ending → Option Tail
ending_tail None = None
ending_tail (Some End) = Some Ended
ending_tail (Some (Refused c)) = Some (TailRefused c)
ending_tail (Some (Fault c)) = None

-- asked for n items: the next n, or what is left, and then with the source's tail
abbrev pub next_items : {T : Type 0} → Trace T → ℕ → ℕ → Reply T
next_items t g n = record {
  first = g;
  items = items_from t g n;
  tail = (if nat_lt (length t.items - g) n then ending_tail t.ending else None);
}

-- no items: it is closed
abbrev pub no_items : {T : Type 0} → ℕ → Reply T
no_items g = record { first = g; items = []; tail = Some Closed }

-- the answer to a request at a place
abbrev pub reply : {T : Type 0} → Trace T → Place → Event → Reply T
reply t p (Ask n) = if p.closed then no_items p.given else next_items t p.given n
reply t p Close = no_items p.given

-- the place after a request: past the items of its answer, and closed from the first Close on
abbrev pub next_place : {T : Type 0} → Trace T → Place → Event → Place
next_place t p (Ask n) = record {
  given = p.given + length (reply t p (Ask n)).items;
  closed = p.closed;
}
next_place t p Close = record { given = p.given; closed = true }

-- the place after all requests of a history
abbrev pub place_after : {T : Type 0} → Trace T → Place → List Record → Place
place_after t p [] = p
place_after t p (r ∷ rs) = place_after t (next_place t p r.asked) rs

-- the record of a request and its answer
abbrev pub request_record : {T : Type 0} → ℕ → Event → Reply T → Record
request_record ticket e a = record {
  ticket = ticket;
  asked = e;
  first = a.first;
  count = length a.items;
  tail = a.tail;
}

-- whether two ways to be the last are the same
abbrev pub same_way : Tail → Tail → Bool
same_way Ended Ended = true
same_way (TailRefused c) (TailRefused d) = c == d
same_way Closed Closed = true
same_way _ _ = false

-- whether two tails are the same, or both missing
abbrev pub same_tail : Option Tail → Option Tail → Bool
same_tail None None = true
same_tail (Some a) (Some b) = same_way a b
same_tail _ _ = false

-- whether a record states that answer: its first, how many items it has, and its tail
abbrev pub tells : {T : Type 0} → Record → Reply T → Bool
tells r a = (r.first == a.first) && (r.count == length a.items) && same_tail r.tail a.tail

-- whether each record states the answer to its request, one after another from a place on
abbrev pub is_run : {T : Type 0} → Trace T → Place → List Record → Bool
is_run t p [] = true
is_run t p (r ∷ rs) = tells r (reply t p r.asked) && is_run t (next_place t p r.asked) rs

-- whether a history is legal for a trace: its records state the answers one after another from the start, under tickets
-- that rise
abbrev pub is_legal_history : {T : Type 0} → Trace T → List Record → Bool
is_legal_history t h = is_run t start h && rises (map (λ r. r.ticket) h)

-- it is legal for that trace
abbrev pub IsLegalHistory : {T : Type 0} → Trace T → List Record → Type 0
IsLegalHistory t h = is_legal_history t h ≡ true

-- what is recorded next, when after this history a request comes under that ticket
abbrev pub next_record : {T : Type 0} → Trace T → List Record → ℕ → Event → Record
next_record t h ticket e = request_record ticket e (reply t (place_after t start h) e)

-- a history with the record of one more request after it
abbrev pub with_next : {T : Type 0} → Trace T → List Record → ℕ → Event → List Record
with_next t h ticket e = h ++ next_record t h ticket e ∷ []

-- whether each record's ticket is below that number
abbrev pub tickets_below : ℕ → List Record → Bool
tickets_below ticket h = list_all (λ r. nat_lt r.ticket ticket) h

-- the items of a trace that a record says were handed out
abbrev pub record_items : {T : Type 0} → Trace T → Record → List T
record_items t r = items_from t r.first r.count

-- the elements that a history says were handed out, each under its place as key
abbrev pub handed_out : {T : Type 0} → Trace T → List Record → List (Keyed T)
handed_out t [] = []
handed_out t (r ∷ rs) = keyed_from r.first (record_items t r) ++ handed_out t rs

-- how many elements a history has handed out
abbrev pub given_by : {T : Type 0} → Trace T → List Record → ℕ
given_by t h = (place_after t start h).given

-- what a history hands out is the first elements of its trace, under the keys 0, 1, 2 and so on
pub record IsPrefix {T : Type 0} (t : Trace T) (h : List Record) : Type 0 where
  pub prefix : handed_out t h ≡ keyed_from 0 (take (given_by t h) t.items)
  pub within : given_by t h ≤ length t.items

-- a source of so many items, whatever they are, with that ending
abbrev pub some_source : ℕ → Option Ending → Trace (Unit {0})
some_source n e = record { items = replicate n tt; ending = e }

-- a record's chunk: its first, its items and its tail
pub record IsChunkOf {T : Type 0} (t : Trace T) (r : Record) (c : Chunk T) : Type 0 where
  pub first : c.first ≡ r.first
  pub items : c.items.items ≡ record_items t r
  pub tail : c.tail ≡ r.tail

-- three records of a source of one item: asked for one, closed, asked again
abbrev example : ℕ → List Record
example closed_at =
    record { ticket = 0; asked = Ask 1; first = 0; count = 1; tail = None }
    ∷ record { ticket = 1; asked = Close; first = closed_at; count = 0; tail = Some Closed }
    ∷ record { ticket = 2; asked = Ask 1; first = 1; count = 0; tail = Some Closed }
    ∷ []

abbrev one_item : Trace ℕ
one_item = ended_trace (5 ∷ []) End

example_is_legal : is_legal_history one_item (example 1) ≡ true
example_is_legal = refl

example_with_another_first : is_legal_history one_item (example 0) ≡ false
example_with_another_first = refl

example_handed_out : handed_out one_item (example 1) ≡ keyed_from 0 (5 ∷ [])
example_handed_out = refl

-- the tickets of three requests; they rise strictly
abbrev with_tickets : ℕ → ℕ → ℕ → List Record
with_tickets i j k =
    record { ticket = i; asked = Close; first = 0; count = 0; tail = Some Closed }
    ∷ record { ticket = j; asked = Close; first = 0; count = 0; tail = Some Closed }
    ∷ record { ticket = k; asked = Ask 1; first = 0; count = 0; tail = Some Closed }
    ∷ []

-- a second Close is answered as the first was, and so is an Ask after them
two_closes : is_legal_history one_item (with_tickets 3 4 9) ≡ true
two_closes = refl

equal_tickets : is_legal_history one_item (with_tickets 3 3 9) ≡ false
equal_tickets = refl

falling_tickets : is_legal_history one_item (with_tickets 3 9 4) ≡ false
falling_tickets = refl

-- a source refuses with its own code and no other
abbrev refused_with : ℕ → List Record
refused_with code = record { ticket = 0; asked = Ask 2; first = 0; count = 1; tail = Some (TailRefused code) } ∷ []

refused_with_its_code : is_legal_history {T = ℕ} (ended_trace (5 ∷ []) (Refused 7)) (refused_with 7) ≡ true
refused_with_its_code = refl

refused_with_another : is_legal_history {T = ℕ} (ended_trace (5 ∷ []) (Refused 7)) (refused_with 8) ≡ false
refused_with_another = refl

-- one record of a source of one item that was asked for so many, which states that count and that tail
abbrev one_record : ℕ → ℕ → Option Tail → List Record
one_record asked count tail = record { ticket = 0; asked = Ask asked; first = 0; count = count; tail = tail } ∷ []

one_of_two_and_the_end : is_legal_history one_item (one_record 2 1 (Some Ended)) ≡ true
one_of_two_and_the_end = refl

with_another_count : is_legal_history one_item (one_record 2 0 (Some Ended)) ≡ false
with_another_count = refl

without_its_tail : is_legal_history one_item (one_record 2 1 None) ≡ false
without_its_tail = refl

with_a_tail_too_early : is_legal_history one_item (one_record 1 1 (Some Ended)) ≡ false
with_a_tail_too_early = refl

-- of three requests one was answered with an item
example_given : given_by one_item (example 1) ≡ 1
example_given = refl

example_is_prefix : IsPrefix one_item (example 1)
example_is_prefix = record { prefix = refl; within = omega arith }

-- two records that state the same item hand it out twice
abbrev twice : List Record
twice = one_record 1 1 None ++ one_record 1 1 None

twice_is_no_prefix : IsPrefix one_item twice → ⊥
twice_is_no_prefix handed = omega (arith, ap length handed.prefix)

-- nor is an item under another key
abbrev under_key_1 : List Record
under_key_1 = record { ticket = 0; asked = Ask 1; first = 1; count = 1; tail = None } ∷ []

another_key_is_no_prefix : IsPrefix {T = ℕ} (ended_trace (5 ∷ 6 ∷ []) End) under_key_1 → ⊥
another_key_is_no_prefix handed = absurd (omega (arith, ap (λ ks. get_or ks 0 0) (ap keys handed.prefix)))
