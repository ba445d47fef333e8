-- A partition that takes once more: its requests go on with the growth, and it moves on or has had a tail.
use Rattle.std.proofs.Common.{◌≡◌, ℕ, ◌+◌, ◌-◌, ◌<◌, ◌≤◌, Bool, true, false, cond, ltb, leb, List, [], ◌∷◌, ◌++◌, length, take, drop, Option, Some}
use Rattle.std.proofs.Common.{None, refl, ap, sym, ◌∙◌, arith}
use Rattle.std.specs.Prelude.{IsSome}
use Rattle.std.proofs.lemmas.Bool.{and_parts, leb-true}
use Rattle.std.proofs.lemmas.Bool.Decides.{nat_tests}
use Rattle.std.proofs.lemmas.List.{length-take, length-drop, length_push}
use Rattle.plinq_source.specs.declared.source.Source.{Ghosts}
use Rattle.plinq_source.specs.declared.ending.Ending.{Ending}
use Rattle.plinq_source.specs.declared.ending.Ending.TheVariants.{End, Refused, Fault}
use Rattle.plinq_source.specs.Trace.{Trace, IsSourceEnding}
use Rattle.plinq_keyed.specs.declared.chunk.Chunk.{Chunk}
use Rattle.plinq_keyed.specs.declared.event.Event.TheVariants.{Ask}
use Rattle.plinq_keyed.specs.declared.record.Record.{Record}
use Rattle.plinq_keyed.specs.History.{Place, reply, no_items, next_items, ending_tail}
use Rattle.plinq_enumerator.specs.Growing.{GrowthRule, size_at}
use Rattle.plinq_partition.specs.declared.chunked.Chunked.{Chunked}
use Rattle.plinq_partition.specs.declared.partition.Partition.{Partition}
use Rattle.plinq_partition.specs.Partitions.{IsPartitionOf, IsTaken, growth_of, holding_of}
use Rattle.plinq_partition.specs.PartitionRecords.{keys_rise_from}
use Rattle.plinq_partition.proofs.KeysRise.{keys_rise-of_partition}
use Rattle.plinq_cli.specs.Rounds.{AsksOn, AsksUntilTail, IsOpen, IsDone, left_of, end_of_requests}

-- ---- requests

AsksOn-last : (g : GrowthRule) (i : ℕ) (rs : List Record) (r : Record) → AsksOn g i rs → r.asked ≡ Ask (size_at g (i + length rs)) → r.tail ≡ None
    → AsksOn g i (rs ++ r ∷ [])
AsksOn-last g i [] r on asked unfinished = (asked ∙ ap (λ m. Ask (size_at g m)) (omega arith), unfinished, tt)
AsksOn-last g i (x ∷ rs) r on asked unfinished = (on.0, on.1, AsksOn-last g (i + 1) rs r on.2 (asked ∙ ap (λ m. Ask (size_at g m)) (omega arith)) unfinished)

AsksUntilTail-first : (g : GrowthRule) (i : ℕ) (x : Record) (rs : List Record) → x.asked ≡ Ask (size_at g i) → x.tail ≡ None
    → AsksUntilTail g (i + 1) rs → AsksUntilTail g i (x ∷ rs)
AsksUntilTail-first g i x [] asked unfinished rest = absurd rest
AsksUntilTail-first g i x (s ∷ rs) asked unfinished rest = (asked, unfinished, rest)

AsksUntilTail-last : (g : GrowthRule) (i : ℕ) (rs : List Record) (r : Record) → AsksOn g i rs → r.asked ≡ Ask (size_at g (i + length rs))
    → IsSome r.tail → AsksUntilTail g i (rs ++ r ∷ [])
AsksUntilTail-last g i [] r on asked tail = (asked ∙ ap (λ m. Ask (size_at g m)) (omega arith), tail)
AsksUntilTail-last g i (x ∷ rs) r on asked tail =
    AsksUntilTail-first g i x (rs ++ r ∷ []) on.0 on.1 (AsksUntilTail-last g (i + 1) rs r on.2 (asked ∙ ap (λ m. Ask (size_at g m)) (omega arith)) tail)

-- ---- places

end_of_requests-last : (at : ℕ) (rs : List Record) (r : Record) → end_of_requests at (rs ++ r ∷ []) ≡ r.first + r.count
end_of_requests-last at [] r = refl
end_of_requests-last at (x ∷ rs) r = end_of_requests-last (x.first + x.count) rs r

end_of_requests-below : (at : ℕ) (rs : List Record) (r : Record) → keys_rise_from at (rs ++ r ∷ []) ≡ true → end_of_requests at rs ≤ r.first
end_of_requests-below at [] r rising = leb-true at r.first (and_parts (leb at r.first) _ rising).0
end_of_requests-below at (x ∷ rs) r rising = end_of_requests-below (x.first + x.count) rs r (and_parts (leb at x.first) _ rising).1

ending_tail-some : {G : Type 0} (e : Option Ending) → IsSourceEnding e → ending_tail e ≡ None → G
ending_tail-some None ends none = absurd ends
ending_tail-some (Some End) ends none = cc
ending_tail-some (Some (Refused code)) ends none = cc
ending_tail-some (Some (Fault code)) ends none = absurd ends

-- an answer without a tail has items
reply-some : {T : Type 0} (t : Trace T) (p : Place) (n : ℕ) → 1 ≤ n → IsSourceEnding t.ending → (reply t p (Ask n)).tail ≡ None
    → 1 ≤ length (reply t p (Ask n)).items
reply-some {T = T} t p n some ends = go p.closed
  where
    within : (b : Bool) → ltb (length t.items - p.given) n ≡ b → cond b (ending_tail t.ending) None ≡ None → 1 ≤ length (take n (drop p.given t.items))
    within true e none = ending_tail-some t.ending ends none
    within false e none =
        let few : n ≤ length t.items - p.given = grind (arith, nat_tests) in
        omega (arith, length-take n (drop p.given t.items), length-drop p.given t.items)

    go : (b : Bool) → (cond b (no_items p.given) (next_items t p.given n)).tail ≡ None → 1 ≤ length (cond b (no_items p.given) (next_items t p.given n)).items
    go true none = cc
    go false none = within (ltb (length t.items - p.given) n) refl none

-- ---- turns

module _ {S T : Type 0} {source : Ghosts S T} (chunked : Chunked S T source) (p q : Partition S T source) (chunk : Chunk T)
    (unfinished : IsOpen chunked (holding_of p).origin p) (of : IsPartitionOf chunked q) (taken : IsTaken (growth_of chunked) (holding_of p)
    (holding_of q) chunk) where
  entry_asked : taken.entry.asked ≡ Ask (size_at (growth_of chunked) (0 + length (holding_of p).share))
  entry_asked = taken.adds.asked_is ∙ ap (λ m. Ask (size_at (growth_of chunked) m)) (unfinished.requests ∙ omega arith)

  ends_within : taken.entry.first + taken.entry.count ≤ length (holding_of p).origin.items
  ends_within = let first = taken.of.first in let count = taken.counted in let within = taken.within in omega arith

  reached_now : end_of_requests 0 (holding_of q).share ≡ taken.entry.first + taken.entry.count
  reached_now = ap (end_of_requests 0) taken.adds.share ∙ end_of_requests-last 0 (holding_of p).share taken.entry

  pub done-taken : IsSome chunk.tail → IsDone chunked (holding_of p).origin q
  done-taken tail = record {
    of = of;
    origin = taken.adds.origin;
    asks =
        rw taken.adds.share (AsksUntilTail-last (growth_of chunked) 0 (holding_of p).share taken.entry unfinished.asks entry_asked (rw (← taken.of.tail) tail));
  }

  pub open-taken : chunk.tail ≡ None → IsOpen chunked (holding_of p).origin q × (left_of q < left_of p)
  open-taken none =
      let entry = taken.entry in
      let n = size_at (growth_of chunked) (holding_of p).requests in
      let t = (holding_of p).origin in
      let answer = reply t taken.adds.place (Ask n) in
      let asked : entry.asked ≡ Ask n = taken.adds.asked_is in
      let open_answer : answer.tail ≡ None =
      ap (λ e. (reply t taken.adds.place e).tail) (sym asked) ∙ (sym (ap (λ (r : Record). r.tail) taken.adds.replied) ∙ (sym taken.of.tail ∙ none)) in
      let count : entry.count ≡ length answer.items =
      ap (λ (r : Record). r.count) taken.adds.replied ∙ ap (λ e. length (reply t taken.adds.place e).items) asked in
      let some : 1 ≤ length answer.items = reply-some t taken.adds.place n taken.some unfinished.ends open_answer in
      let rising : keys_rise_from 0 ((holding_of p).share ++ entry ∷ []) ≡ true =
      ap (keys_rise_from 0) (sym taken.adds.share) ∙ keys_rise-of_partition chunked q of in
      let below = end_of_requests-below 0 (holding_of p).share entry rising in
      let now = reached_now in
      let within = ends_within in
      let same : length (holding_of q).origin.items ≡ length t.items = ap (λ (u : Trace T). length u.items) taken.adds.origin in (
        record {
          ends = unfinished.ends;
          of = of;
          origin = taken.adds.origin;
          asks = rw taken.adds.share (AsksOn-last (growth_of chunked) 0 (holding_of p).share entry unfinished.asks entry_asked (sym taken.of.tail ∙ none));
          requests = taken.requests ∙ (ap (λ m. m + 1) unfinished.requests ∙ (sym (length_push (holding_of p).share entry) ∙ ap length (sym taken.adds.share)));
          within = omega arith;
        },
        omega arith,
      )
