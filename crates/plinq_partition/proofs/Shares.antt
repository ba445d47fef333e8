-- A share that stands in a legal history: its keys rise, and a record that comes after the history is above them.
use Rattle.std.proofs.Common.{◌≡◌, ℕ, zero, suc, ◌+◌, ◌-◌, ◌≤◌, true, cond, leb, List, [], ◌∷◌, ◌++◌, length, drop, refl, sym, ap, ◌∙◌, arith, length-drop}
use Rattle.std.specs.List.{range_with_len}
use Rattle.std.proofs.lemmas.Bool.{and_parts, and_from, leb-true, le-leb}
use Rattle.std.proofs.lemmas.Bool.Decides.{nat_tests}
use Rattle.std.proofs.lemmas.List.{length-take, length-take-le, append-nil, map-append}
use Rattle.plinq_source.specs.Trace.{Trace}
use Rattle.plinq_keyed.specs.declared.chunk.Chunk.{Chunk}
use Rattle.plinq_keyed.specs.declared.event.Event.{Event}
use Rattle.plinq_keyed.specs.declared.keyed.Keyed.{Keyed}
use Rattle.plinq_keyed.specs.declared.record.Record.{Record}
use Rattle.plinq_keyed.specs.Keys.{keys, keyed_from, rises_from, ordered_in_each, normalized, counts_up}
use Rattle.plinq_keyed.specs.History.{Place, start, reply, next_place, place_after, tells, is_run, IsLegalHistory, next_record, handed_out, given_by}
use Rattle.plinq_keyed.specs.History.{record_items, IsChunkOf}
use Rattle.plinq_keyed.proofs.Legal.{Told-from_tells, reply-first, next_place-given, length-reply, IsPrefix-from_legal}
use Rattle.plinq_keyed.proofs.Rising.{keys-keyed_from, counts_up-range, keys-handed_out}
use Rattle.plinq_keyed.proofs.Distinct.{rises_from-less}
use Rattle.plinq_ticket.specs.Weights.{total}
use Rattle.plinq_ticket.specs.Shares.{Contains}
use Rattle.plinq_partition.specs.PartitionRecords.{keys_rise_from}

-- 1 where a record ends above a key, and else 0
abbrev late : ℕ → Record → ℕ
late g r = cond (leb (r.first + r.count) g) 0 1

late-none : (g : ℕ) (r : Record) → late g r ≡ 0 → r.first + r.count ≤ g
late-none g r h = grind (arith, nat_tests)

none-late : (g : ℕ) (r : Record) → r.first + r.count ≤ g → late g r ≡ 0
none-late g r h = ap (λ b. cond b 0 1) (le-leb (r.first + r.count) g h)

-- a place only moves on
place_after-grows : {T : Type 0} (t : Trace T) (p : Place) (h : List Record) → p.given ≤ (place_after t p h).given
place_after-grows t p [] = omega arith
place_after-grows t p (r ∷ h) =
    let moved = next_place-given t p r.asked in
    let rest = place_after-grows t (next_place t p r.asked) h in
    omega arith

-- no record of a run ends above the place after it
run-ends : {T : Type 0} (t : Trace T) (p : Place) (h : List Record) (g : ℕ) → is_run t p h ≡ true → (place_after t p h).given ≤ g → total (late g) h ≡ 0
run-ends t p [] g run within = refl
run-ends t p (r ∷ h) g run within =
    let parts = and_parts (tells r (reply t p r.asked)) _ run in
    let told = Told-from_tells r (reply t p r.asked) parts.0 in
    let first : r.first ≡ p.given = told.first ∙ reply-first t p r.asked in
    let moved = next_place-given t p r.asked in
    let grows = place_after-grows t (next_place t p r.asked) h in
    let count = told.count in
    let here : late g r ≡ 0 = none-late g r (omega arith) in
    let rest = run-ends t (next_place t p r.asked) h g parts.1 within in
    omega arith

-- after a share that ends by a key, a record that begins there is above it
rises-after : (least g : ℕ) (share : List Record) (r : Record) → keys_rise_from least share ≡ true → total (late g) share ≡ 0 → least ≤ g
    → r.first ≡ g → keys_rise_from least (share ++ r ∷ []) ≡ true
rises-after least g [] r rising ends below at = and_from _ _ (le-leb least r.first (omega arith)) refl
rises-after least g (x ∷ share) r rising ends below at =
    let parts = and_parts (leb least x.first) _ rising in
    let first : late g x ≡ 0 = omega arith in
    let rest : total (late g) share ≡ 0 = omega arith in
    and_from _ _ parts.0 (rises-after (x.first + x.count) g share r parts.1 rest (late-none g x first) at)

-- a share stays one whose keys rise, with a record that comes after the whole history
pub rises-next : {T : Type 0} (t : Trace T) (h share : List Record) (ticket : ℕ) (e : Event) → IsLegalHistory t h → Contains h share
    → keys_rise_from 0 share ≡ true → keys_rise_from 0 (share ++ next_record t h ticket e ∷ []) ≡ true
rises-next t h share ticket e legal contains rising =
    let run = and_parts (is_run t start h) _ legal in
    let all = run-ends t start h (given_by t h) run.0 (omega arith) in
    let some_of = contains (late (given_by t h)) in
    let none : total (late (given_by t h)) share ≡ 0 = omega arith in
    rises-after 0 (given_by t h) share (next_record t h ticket e) rising none (omega arith) (reply-first t (place_after t start h) e)

-- a chunk of what is recorded next has as many items as the record says, and lies within its source
pub chunk-within : {T : Type 0} (t : Trace T) (h : List Record) (ticket : ℕ) (e : Event) (chunk : Chunk T) → IsLegalHistory t h
    → IsChunkOf t (next_record t h ticket e) chunk →
    (length chunk.items.items ≡ (next_record t h ticket e).count) × (chunk.first + length chunk.items.items ≤ length t.items)
chunk-within t h ticket e chunk legal of =
    let r = next_record t h ticket e in
    let within = (IsPrefix-from_legal t h legal).within in
    let first : r.first ≡ given_by t h = reply-first t (place_after t start h) e in
    let few : r.count ≤ length t.items - given_by t h = length-reply t (place_after t start h) e in
    let items : length chunk.items.items ≡ length (record_items t r) = ap length of.items in
    let room : r.count ≤ length (drop r.first t.items) = omega (arith, length-drop r.first t.items) in
    let most : length (record_items t r) ≡ r.count = length-take-le r.count (drop r.first t.items) room in
    let same = of.first in
    (items ∙ most, omega arith)

-- ---- the keys that are handed out

rises-range : (least k n : ℕ) (ks : List ℕ) → least ≤ k → rises_from (k + n) ks ≡ true → rises_from least (range_with_len k n ++ ks) ≡ true
rises-range least k zero ks below rising = rises_from-less (k + 0) least ks (omega arith) rising
rises-range least k (suc n) ks below rising =
    let e : k + suc n ≡ (k + 1) + n = omega arith in
    and_from _ _ (le-leb least k below) (rises-range (k + 1) (k + 1) n ks (omega arith) (ap (λ m. rises_from m ks) (sym e) ∙ rising))

rises-share : {T : Type 0} (t : Trace T) (least : ℕ) (share : List Record) → keys_rise_from least share ≡ true
    → rises_from least (keys (handed_out t share)) ≡ true
rises-share t least [] rising = refl
rises-share t least (r ∷ share) rising =
    let parts = and_parts (leb least r.first) _ rising in
    let items = record_items t r in
    let most = length-take r.count (drop r.first t.items) in
    let rest = rises-share t (r.first + r.count) share parts.1 in
    let past = rises_from-less (r.first + r.count) (r.first + length items) (keys (handed_out t share)) (omega arith) rest in
    ap (rises_from least) (map-append (λ (x : Keyed _). x.key) (keyed_from r.first items) (handed_out t share)
    ∙ ap (λ ks. ks ++ keys (handed_out t share)) (keys-keyed_from r.first items))
    ∙ rises-range least r.first (length items) (keys (handed_out t share)) (leb-true least r.first parts.0) past

pub ordered-share : {T : Type 0} (t : Trace T) (share : List Record) → keys_rise_from 0 share ≡ true → ordered_in_each (keys (handed_out t share) ∷ []) ≡ true
ordered-share t share rising = and_from _ _ (rises-share t 0 share rising) refl

pub normalized-history : {T : Type 0} (t : Trace T) (h : List Record) → IsLegalHistory t h → normalized (keys (handed_out t h) ∷ []) ≡ true
normalized-history t h legal =
    ap counts_up (append-nil (keys (handed_out t h)) ∙ keys-handed_out t h legal) ∙ counts_up-range (given_by t h)
