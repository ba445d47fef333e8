-- The result of a chunk that was taken is one of the source.
use Rattle.std.proofs.Common.{◌≡◌, ℕ, ◌+◌, ◌-◌, ◌≤◌, Bool, true, false, length, drop, Option, Some, None, refl, sym, ap, ◌∙◌, arith}
use Rattle.std.proofs.lemmas.Bool.Decides.{nat_tests}
use Rattle.std.proofs.lemmas.List.{length-take, length-drop}
use Rattle.std.specs.Prelude.{nat_lt, if◌then◌else◌}
use Rattle.std.specs.Option.{IfSome}
use Rattle.plinq_source.specs.declared.ending.Ending.{Ending}
use Rattle.plinq_source.specs.declared.ending.Ending.TheVariants.{End, Refused, Fault}
use Rattle.plinq_source.specs.Trace.{Trace, items_from}
use Rattle.plinq_lambda.specs.Meaning.{Meaning}
use Rattle.plinq_keyed.specs.declared.chunk.Chunk.{Chunk}
use Rattle.plinq_keyed.specs.declared.event.Event.{Event}
use Rattle.plinq_keyed.specs.declared.event.Event.TheVariants.{Ask, Close}
use Rattle.plinq_keyed.specs.declared.record.Record.{Record}
use Rattle.plinq_keyed.specs.declared.tail.Tail.{Tail}
use Rattle.plinq_keyed.specs.History.{Place, reply, request_record, ending_tail}
use Rattle.plinq_partition.specs.Partitions.{Holding, IsTakenOf}
use Rattle.plinq_ops.specs.declared.order.Order.TheVariants.{ByArrival}
use Rattle.plinq_ops.specs.declared.plan.Plan.{Plan}
use Rattle.plinq_ops.specs.declared.results.ChunkResult.{ChunkResult}
use Rattle.plinq_ops.specs.Chunk.{IsChunkResult}
use Rattle.plinq_ops.specs.Cut.{no_cut, is_cut}
use Rattle.plinq_ops.specs.Tails.{told_at, EndsAt}
use Rattle.plinq_crew.specs.Results.{IsResult}

-- what a tail after this key says of the source's end is so
abbrev IsToldAt : {T : Type 0} → Trace T → ℕ → Option Tail → Type 0
IsToldAt t key tail = IfSome (told_at key tail) (EndsAt t)

told-ending : {T : Type 0} (t : Trace T) (key : ℕ) (e : Option Ending) → key ≡ length t.items → t.ending ≡ e → IsToldAt t key (ending_tail e)
told-ending t key None at is = tt
told-ending t key (Some End) at is = (at, is)
told-ending t key (Some (Refused code)) at is = (at, is)
told-ending t key (Some (Fault code)) at is = tt

told-next : {T : Type 0} (t : Trace T) (g n : ℕ) (b : Bool) → nat_lt (length t.items - g) n ≡ b → g + length (items_from t g n) ≤ length t.items
    → IsToldAt t (g + length (items_from t g n)) (if b then ending_tail t.ending else None)
told-next t g n true is within =
    let taken = length-take n (drop g t.items) in
    let left = length-drop g t.items in
    told-ending t (g + length (items_from t g n)) t.ending (grind (arith, nat_tests)) refl
told-next t g n false is within = tt

-- a reply within the source gives its ending only after its last item
told-asked : {T : Type 0} (t : Trace T) (given n : ℕ) (closed : Bool) → let r = reply t (record { given = given; closed = closed }) (Ask n) in
    r.first + length r.items ≤ length t.items → IsToldAt t (r.first + length r.items) r.tail
told-asked t given n true within = tt
told-asked t given n false within = told-next t given n (nat_lt (length t.items - given) n) refl within

told-reply : {T : Type 0} (t : Trace T) (p : Place) (asked : Event) → let r = reply t p asked in
    r.first + length r.items ≤ length t.items → IsToldAt t (r.first + length r.items) r.tail
told-reply t p (Ask n) within = told-asked t p.given n p.closed within
told-reply t p Close within = tt

told-request_record : {T : Type 0} (t : Trace T) (p : Place) (entry : Record) → entry ≡ request_record entry.ticket entry.asked (reply t p entry.asked)
    → entry.first + entry.count ≤ length t.items → IsToldAt t (entry.first + entry.count) entry.tail
told-request_record t p entry is within =
    let r = reply t p entry.asked in
    let first : entry.first ≡ r.first = ap (λ (x : Record). x.first) is in
    let count : entry.count ≡ length r.items = ap (λ (x : Record). x.count) is in
    let tail : entry.tail ≡ r.tail = ap (λ (x : Record). x.tail) is in
    rw (first, count, tail) (told-reply t p entry.asked (omega arith))

pub result-from_taken : {L T : Type 0} (meaning : L → Meaning T) (plan : Plan L) (n : ℕ) (a b : Holding T) (cut : ℕ) (chunk : Chunk T)
    (r : ChunkResult T)
    → is_cut meaning plan.worker.now a.origin.items cut ≡ true → (plan.order ≡ ByArrival → cut ≡ no_cut) → IsTakenOf n a b chunk
    → IsChunkResult meaning plan.worker.now cut chunk r
    → IsResult meaning plan a.origin r
result-from_taken meaning plan n a b cut chunk r is uncut taken made =
    let t = a.origin in
    let entry = taken.entry in
    let first : chunk.first ≡ entry.first = taken.of.first in
    let counted : length chunk.items.items ≡ entry.count = taken.counted in
    let told = told-request_record t taken.adds.place entry taken.adds.replied (rw (sym first, sym counted) taken.within) in
    let is_first : r.first ≡ entry.first = made.first ∙ first in
    let is_count : r.count ≡ entry.count = made.count ∙ counted in
    let is_tail : r.tail ≡ entry.tail = made.tail ∙ taken.of.tail in
    record {
      offer = record {
        cut = cut;
        chunk = chunk;
        is_cut = is;
        within = taken.within;
        items = taken.of.items ∙ rw (first, counted) refl;
        made = made;
      };
      uncut = uncut;
      tail = rw (is_first, is_count, is_tail) told;
      within = rw (is_first, is_count) (rw (sym first, sym counted) taken.within);
    }
