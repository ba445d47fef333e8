-- The lines that the program prints of a history of requests.
use Rattle.std.specs.Prelude.{◌≡◌, ℕ, List, [], ◌∷◌, ◌++◌, Option, Some, None, codes, decimal, refl}
use Rattle.std.specs.List.{flat_map}
use Rattle.std.specs.Fmt.{digits}
use Rattle.plinq_source.specs.declared.ending.Ending.{Ending}
use Rattle.plinq_source.specs.declared.ending.Ending.TheVariants.{End, Refused}
use Rattle.plinq_keyed.specs.declared.event.Event.{Event}
use Rattle.plinq_keyed.specs.declared.event.Event.TheVariants.{Ask, Close}
use Rattle.plinq_keyed.specs.declared.record.Record.{Record}
use Rattle.plinq_keyed.specs.declared.tail.Tail.{Tail}
use Rattle.plinq_keyed.specs.declared.tail.Tail.TheVariants.{Ended, Refused as TailRefused, Closed}
use Rattle.plinq_lines.specs.AnswerText.{line, ending_line}

-- a request by its word
abbrev pub asked_word : Event → List ℕ
asked_word (Ask n) = codes " ask "
asked_word Close = codes " close"

-- and how many items it asked for
abbrev pub asked_number : Event → List ℕ
asked_number (Ask n) = decimal n
asked_number Close = []

-- why no items come after these, by its word
abbrev pub tail_word : Option Tail → List ℕ
tail_word None = []
tail_word (Some Ended) = codes " ended"
tail_word (Some (TailRefused code)) = codes " refused "
tail_word (Some Closed) = codes " closed"

-- and the code of a refusal
abbrev pub tail_number : Option Tail → List ℕ
tail_number None = []
tail_number (Some Ended) = []
tail_number (Some (TailRefused code)) = decimal code
tail_number (Some Closed) = []

-- a record: its ticket, what was asked, the key of the first item, how many items there were, and the tail
abbrev pub record_line : Record → List ℕ
record_line r =
    codes "ticket "
    ++ (decimal r.ticket
    ++ (asked_word r.asked
    ++ (asked_number r.asked
    ++ (codes " first "
    ++ (decimal r.first
    ++ (codes " count " ++ (decimal r.count ++ (tail_word r.tail ++ line (tail_number r.tail)))))))))

-- records, a line each
abbrev pub record_lines : List Record → List ℕ
record_lines = flat_map record_line

-- a history, and how the source ends
abbrev pub history_text : List Record → Option Ending → List ℕ
history_text h e = record_lines h ++ ending_line e

-- ---- worked rows

-- a request for one item under a ticket, and what was handed out for it
abbrev for_one : (ticket first count : ℕ) → Option Tail → Record
for_one ticket first count tail = record {
  ticket = ticket;
  asked = Ask 1;
  first = first;
  count = count;
  tail = tail;
}

-- four items, asked for one by one in two partitions
abbrev six_requests : List Record
six_requests =
    for_one 0 0 1 None
    ∷ for_one 1 1 1 None
    ∷ for_one 2 2 1 None
    ∷ for_one 3 3 1 None
    ∷ for_one 4 4 0 (Some Ended)
    ∷ for_one 5 4 0 (Some Ended)
    ∷ []

pub four_items_in_two : history_text six_requests (Some End)
    ≡ codes "ticket 0 ask 1 first 0 count 1\nticket 1 ask 1 first 1 count 1\nticket 2 ask 1 first 2 count 1\nticket 3 ask 1 first 3 count 1\n"
    ++ codes "ticket 4 ask 1 first 4 count 0 ended\nticket 5 ask 1 first 4 count 0 ended\nend\n"
unfolding digits
four_items_in_two = refl

pub one_item_and_a_refusal : history_text (for_one 0 0 1 None ∷ for_one 1 1 0 (Some (TailRefused 7)) ∷ []) (Some (Refused 7))
    ≡ codes "ticket 0 ask 1 first 0 count 1\nticket 1 ask 1 first 1 count 0 refused 7\nrefused 7\n"
unfolding digits
one_item_and_a_refusal = refl

pub a_close : record_line (record { ticket = 12; asked = Close; first = 3; count = 0; tail = Some Closed }) ≡ codes "ticket 12 close first 3 count 0 closed\n"
unfolding digits
a_close = refl
