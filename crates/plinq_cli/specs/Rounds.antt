-- The history that partitions leave which take in turn until each has had a tail.
use Rattle.std.specs.Prelude.{◌≡◌, ℕ, ◌+◌, ◌-◌, ◌≤◌, List, [], ◌∷◌, length, Option, Some, None, IsSome, ⊤, refl}
use Rattle.std.specs.List.{flat_map}
use Rattle.plinq_source.specs.declared.source.Source.{Ghosts}
use Rattle.plinq_source.specs.Trace.{Trace, IsSourceEnding, ended_trace}
use Rattle.plinq_source.specs.declared.ending.Ending.{Ending}
use Rattle.plinq_source.specs.declared.ending.Ending.TheVariants.{End, Refused}
use Rattle.plinq_keyed.specs.declared.event.Event.TheVariants.{Ask}
use Rattle.plinq_keyed.specs.declared.record.Record.{Record}
use Rattle.plinq_keyed.specs.declared.tail.Tail.{Tail}
use Rattle.plinq_keyed.specs.declared.tail.Tail.TheVariants.{Ended, Refused as TailRefused, Closed}
use Rattle.plinq_keyed.specs.History.{IsLegalHistory}
use Rattle.plinq_enumerator.specs.Growing.{GrowthRule, size_at}
use Rattle.plinq_ticket.specs.Shares.{in_ticket_order}
use Rattle.plinq_partition.specs.declared.chunked.Chunked.{Chunked}
use Rattle.plinq_partition.specs.declared.partition.Partition.{Partition}
use Rattle.plinq_partition.specs.Partitions.{IsPartitionOf, growth_of, holding_of}

-- requests number i, i + 1 and so on of a growth, none of which was answered with a tail
abbrev pub AsksOn : GrowthRule → ℕ → List Record → Type 0
AsksOn g i [] = ⊤
AsksOn g i (r ∷ rs) = (r.asked ≡ Ask (size_at g i)) × (r.tail ≡ None) × AsksOn g (i + 1) rs

-- requests number i, i + 1 and so on of a growth, of which the last and no other was answered with a tail
abbrev pub AsksUntilTail : GrowthRule → ℕ → List Record → Type 0
AsksUntilTail g i [] = ⊥
AsksUntilTail g i (r ∷ []) = (r.asked ≡ Ask (size_at g i)) × IsSome r.tail
AsksUntilTail g i (r ∷ s ∷ rs) = (r.asked ≡ Ask (size_at g i)) × (r.tail ≡ None) × AsksUntilTail g (i + 1) (s ∷ rs)

-- each of some partitions' records are such requests, from the first on
abbrev pub EachUntilTail : GrowthRule → List (List Record) → Type 0
EachUntilTail g [] = ⊤
EachUntilTail g (share ∷ shares) = AsksUntilTail g 0 share × EachUntilTail g shares

-- records that so many partitions have left, each of which took until it had a tail, in the order of their tickets
pub record AreShares (n : ℕ) (g : GrowthRule) (h : List Record) : Type 0 where
  pub shares : List (List Record)
  pub count : length shares ≡ n
  pub each : EachUntilTail g shares
  pub history : h ≡ in_ticket_order (flat_map (λ share. share) shares)

-- a legal history of a source that consists of such records
pub record IsHistory {T : Type 0} (n : ℕ) (g : GrowthRule) (t : Trace T) (h : List Record) : Type 0 where
  pub left : AreShares n g h
  pub legal : IsLegalHistory t h

-- the ending that a tail gives, and where there is none a later one
abbrev pub tail_ending : Option Tail → Option Ending → Option Ending
tail_ending None later = later
tail_ending (Some Ended) later = Some End
tail_ending (Some (TailRefused code)) later = Some (Refused code)
tail_ending (Some Closed) later = None

-- the ending that the first tail gives
abbrev pub told_ending : List Record → Option Ending
told_ending [] = None
told_ending (r ∷ rs) = tail_ending r.tail (told_ending rs)

-- where the last of some requests ended, the first of which began at a place
abbrev pub end_of_requests : ℕ → List Record → ℕ
end_of_requests at [] = at
end_of_requests at (r ∷ rs) = end_of_requests (r.first + r.count) rs

module _ {S T : Type 0} {source : Ghosts S T} where
  -- a partition that has had no tail yet
  pub record IsOpen (chunked : Chunked S T source) (t : Trace T) (p : Partition S T source) : Type 0 where
    pub ends : IsSourceEnding t.ending
    pub of : IsPartitionOf chunked p
    pub origin : (holding_of p).origin ≡ t
    pub asks : AsksOn (growth_of chunked) 0 (holding_of p).share
    pub requests : (holding_of p).requests ≡ length (holding_of p).share
    pub within : end_of_requests 0 (holding_of p).share ≤ length t.items

  -- one that has had a tail, and took no more
  pub record IsDone (chunked : Chunked S T source) (t : Trace T) (p : Partition S T source) : Type 0 where
    pub of : IsPartitionOf chunked p
    pub origin : (holding_of p).origin ≡ t
    pub asks : AsksUntilTail (growth_of chunked) 0 (holding_of p).share

  -- how many items are left after those that the partition was given last
  abbrev pub left_of : Partition S T source → ℕ
  left_of p = length (holding_of p).origin.items - end_of_requests 0 (holding_of p).share

-- ---- worked rows

abbrev for_one : (ticket first count : ℕ) → Option Tail → Record
for_one ticket first count tail = record {
  ticket = ticket;
  asked = Ask 1;
  first = first;
  count = count;
  tail = tail;
}

-- two partitions take from a list of two items
abbrev two_partitions : List Record
two_partitions = for_one 0 0 1 None ∷ for_one 1 1 1 None ∷ for_one 2 2 0 (Some Ended) ∷ for_one 3 2 0 (Some Ended) ∷ []

abbrev by_threes : GrowthRule
by_threes = record { first = 1; repeat = 3; max = 512 }

pub row_of_two : IsHistory {T = ℕ} 2 by_threes (ended_trace (10 ∷ 20 ∷ []) End) two_partitions
row_of_two = record {
  left = record {
    shares = (for_one 0 0 1 None ∷ for_one 2 2 0 (Some Ended) ∷ []) ∷ (for_one 1 1 1 None ∷ for_one 3 2 0 (Some Ended) ∷ []) ∷ [];
    count = refl;
    each = ((refl, refl, (refl, refl)), ((refl, refl, (refl, refl)), tt));
    history = refl;
  };
  legal = refl;
}

pub row_of_its_ending : told_ending two_partitions ≡ Some End
row_of_its_ending = refl
