-- What a partition has after one way through the lock.
use Rattle.std.proofs.Common.{◌≡◌, ℕ, true, List, [], ◌∷◌, ◌++◌, sym, ap, ◌∙◌}
use Rattle.plinq_source.specs.declared.source.Source.{Ghosts}
use Rattle.plinq_source.specs.Trace.{Trace}
use Rattle.plinq_keyed.specs.declared.event.Event.{Event}
use Rattle.plinq_keyed.specs.declared.record.Record.{Record}
use Rattle.plinq_keyed.specs.History.{IsLegalHistory, next_record, with_next}
use Rattle.plinq_enumerator.specs.declared.enumerator.Enumerator.{Enumerator}
use Rattle.plinq_enumerator.specs.Held.{held_source, held_records}
use Rattle.plinq_ticket.specs.declared.held.Entry.{Entry}
use Rattle.plinq_ticket.specs.Passes.{held_value, held_origin, held_found, held_share}
use Rattle.plinq_ticket.specs.Shares.{Contains, added_records}
use Rattle.plinq_ticket.proofs.Ordered.{added_records-append}
use Rattle.plinq_partition.specs.declared.chunked.Chunked.{Chunked}
use Rattle.plinq_partition.specs.inner.Inside.{IsInside}
use Rattle.plinq_partition.specs.PartitionRecords.{keys_rise_from}
use Rattle.plinq_partition.proofs.Shares.{rises-next}

-- the share after a request: what came after the history came after the share
next-share : {T : Type 0} (t : Trace T) (h found new share : List Record) (ticket : ℕ) (e : Event) → new ≡ with_next t h ticket e → h ≡ found
    → share ++ added_records found new ≡ share ++ next_record t h ticket e ∷ []
next-share t h found new share ticket e recorded same =
    ap (λ rs. share ++ rs) (ap (λ rs. added_records rs new) (sym same) ∙ ap (λ rs. added_records h rs) recorded
    ∙ added_records-append h (next_record t h ticket e ∷ []))

module _ {S T : Type 0} {source : Ghosts S T} where
  -- What is known of the enumerator inside, before a request, and of the share after it
  pub record Recorded (held : Entry (Enumerator S T source) T) (value : Enumerator S T source) (ticket : ℕ) (e : Event) (after : List Record) : Type 0 where
    pub origin : source.whole (held_source value) ≡ held_origin held
    pub legal : IsLegalHistory (source.whole (held_source value)) (held_records value)
    pub share : after ≡ held_share held ++ next_record (source.whole (held_source value)) (held_records value) ticket e ∷ []
    pub rising : keys_rise_from 0 after ≡ true

  pub recorded-inside : (chunked : Chunked S T source) (requests : ℕ) (held : Entry (Enumerator S T source) T) (value : Enumerator S T source)
      (new after : List Record) (ticket : ℕ) (e : Event)
      → IsInside chunked requests held → value ≡ held_value held → new ≡ with_next (source.whole (held_source value)) (held_records value) ticket e
      → after ≡ held_share held ++ added_records (held_found held) new → Recorded held value ticket e after
  recorded-inside chunked requests held value new after ticket e inside is recorded left =
      let finds = inside.finds in
      let t = source.whole (held_source value) in
      let h = held_records value in
      let origin : t ≡ held_origin held = ap (λ v. source.whole (held_source v)) is ∙ finds.value_origin in
      let found : h ≡ held_found held = ap (λ v. held_records v) is ∙ finds.value_history in
      let legal : IsLegalHistory t h = rw (origin, found) finds.legal in
      let contains : Contains h (held_share held) = rw found finds.contains in
      let share = left ∙ next-share t h (held_found held) new (held_share held) ticket e recorded found in
      record {
        origin = origin;
        legal = legal;
        share = share;
        rising = ap (keys_rise_from 0) share ∙ rises-next t h (held_share held) ticket e legal contains inside.rising;
      }
