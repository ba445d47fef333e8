-- What records hand out: all that they account for; and a result that is of it is one of these first items of the source.
use Rattle.plinq_run.proofs.RunWords.{◌≡◌, ℕ, ◌+◌, ◌≤◌, nat_le, List, [], ◌∷◌, length, take, true, false, cond, if◌then◌else◌, None, All, IsPermutation, refl}
use Rattle.plinq_run.proofs.RunWords.{◌^◌, ◌==◌, ◌||◌, ◌⊎◌, ◌++◌, drop, Option, Some, MatchBool, IfSome, sym, ◌∙◌, ap, arith, subst, inl, inr, length-take-le}
use Rattle.plinq_run.proofs.RunWords.{take-append-drop, length-drop, All-nil, All-cons, All-weaker, IsPermutation-refl, IsPermutation-trans, Trace, Meaning}
use Rattle.plinq_run.proofs.RunWords.{Record, Chunk, in_ticket_order, Dropped, Op, Plan, ChunkResult, ChunkAnswer, IsToldBy, IsChunkResult, end_of_result}
use Rattle.plinq_run.proofs.RunWords.{told_at, EndsAt, IsResult, is_close, handed_trace, Covers, IsOffered}
use Rattle.std.specs.Prelude.{map}
use Rattle.std.proofs.lemmas.Bool.{and_parts, or_cases, or_left, or_right}
use Rattle.std.proofs.lemmas.List.{take-append-le, drop-append-le, Folds.list_any_at, Folds.list_any-append}
use Rattle.std.proofs.lemmas.List.Sorted.{All-permutation, IsPermutation-sym, IsPermutation-cons, IsPermutation-middle, list_any-IsPermutation}
use Rattle.plinq_keyed.specs.{declared.keyed.Keyed.Keyed, Keys.keyed_from, Keys.is_among, declared.tail.Tail.Tail, declared.tail.Tail.TheVariants.Closed}
use Rattle.plinq_keyed.specs.History.{Place, start, reply, next_place, place_after, tells, is_run, IsLegalHistory, given_by}
use Rattle.plinq_keyed.proofs.Legal.{Told-from_tells, reply-first, next_place-given, IsPrefix-from_legal}
use Rattle.plinq_ticket.specs.Shares.{placed_records}
use Rattle.plinq_ops.specs.{Cut.stop_keys, Cut.no_cut, Cut.is_cut, Row.IsOffer}
use Rattle.plinq_ops.proofs.Cut.{stop_keys-above, stop_keys-append, chunk_answer-above}
use Rattle.plinq_run.specs.Handed.{is_end, has_close}

-- a run hands out more and more
place_after-grows : {T : Type 0} (t : Trace T) (p : Place) (h : List Record) → p.given ≤ (place_after t p h).given
place_after-grows t p [] = omega arith
place_after-grows t p (r ∷ h) = omega (arith, next_place-given t p r.asked, place_after-grows t (next_place t p r.asked) h)

-- all that records of a run hand out is within what it has handed out
run-within : {T : Type 0} (t : Trace T) (p : Place) (h : List Record) → is_run t p h ≡ true → All (λ r. r.first + r.count ≤ (place_after t p h).given) h
run-within t p [] run = All-nil (λ (r : Record). r.first + r.count ≤ p.given)
run-within t p (r ∷ h) run =
    let parts = and_parts (tells r (reply t p r.asked)) _ run in
    let told = Told-from_tells r (reply t p r.asked) parts.0 in
    let next : Place = next_place t p r.asked in
    let moved : next.given ≡ p.given + length (reply t p r.asked).items = next_place-given t p r.asked in
    let first : r.first ≡ p.given = told.first ∙ reply-first t p r.asked in
    All-cons (λ (x : Record). x.first + x.count ≤ (place_after t next h).given) r h (omega (arith, first, told.count, moved, place_after-grows t next h))
    (run-within t next h parts.1)

values-keyed_from : {T : Type 0} (k : ℕ) (xs : List T) → map (λ (x : Keyed T). x.value) (keyed_from k xs) ≡ xs
values-keyed_from k [] = refl
values-keyed_from k (x ∷ xs) = ap (λ ys. x ∷ ys) (values-keyed_from (k + 1) xs)

-- what a legal history hands out is the first items
handed-items : {T : Type 0} (t : Trace T) (h : List Record) → IsLegalHistory t h → (handed_trace t h).items ≡ take (given_by t h) t.items
handed-items t h legal = ap (map (λ (x : Keyed _). x.value)) (IsPrefix-from_legal t h legal).prefix ∙ values-keyed_from 0 (take (given_by t h) t.items)

-- records in the order of their tickets are the same
placed_records-permutes : (r : Record) (rs : List Record) → IsPermutation (r ∷ rs) (placed_records r rs)
placed_records-permutes r [] = IsPermutation-refl (r ∷ [])
placed_records-permutes r (x ∷ rs) =
    elim (nat_le r.ticket x.ticket) as (λ b. IsPermutation (r ∷ x ∷ rs) (if b then r ∷ x ∷ rs else x ∷ placed_records r rs)) [
      | true ↦ IsPermutation-refl (r ∷ x ∷ rs)
      | false ↦
          IsPermutation-trans (r ∷ x ∷ rs) (x ∷ r ∷ rs) (x ∷ placed_records r rs) (IsPermutation-middle (r ∷ []) x rs)
          (IsPermutation-cons x (r ∷ rs) (placed_records r rs) (placed_records-permutes r rs))
    ]

in_order-permutes : (rs : List Record) → IsPermutation rs (in_ticket_order rs)
in_order-permutes [] = IsPermutation-refl []
in_order-permutes (r ∷ rs) =
    IsPermutation-trans (r ∷ rs) (r ∷ in_ticket_order rs) (in_ticket_order (r ∷ rs)) (IsPermutation-cons r rs (in_ticket_order rs) (in_order-permutes rs))
    (placed_records-permutes r (in_ticket_order rs))

-- where one is a request to close, so it is in their order
pub closed-in_order : (rs : List Record) → has_close rs ≡ true → has_close (in_ticket_order rs) ≡ true
closed-in_order rs is = sym (list_any-IsPermutation (λ r. is_close r.asked) rs (in_ticket_order rs) (in_order-permutes rs)) ∙ is

-- and what they hand out has all that is in them
pub covers-handed : {T : Type 0} (t : Trace T) (rs : List Record) → IsLegalHistory t (in_ticket_order rs) → Covers t rs (handed_trace t (in_ticket_order rs))
covers-handed t rs legal =
    let h = in_ticket_order rs in
    let prefix = IsPrefix-from_legal t h legal in
    let items = handed-items t h legal in
    let size : length (handed_trace t h).items ≡ given_by t h = ap length items ∙ length-take-le (given_by t h) t.items prefix.within in
    let run = and_parts (is_run t start h) _ legal in
    let back = IsPermutation-sym rs h (in_order-permutes rs) in
    let Ends : Record → Type 0 = λ r. r.first + r.count ≤ length (handed_trace t h).items in
    let Tells : Record → Type 0 = λ r. is_end r.tail ≡ true → (handed_trace t h).ending ≡ t.ending in
    record {
      items = items ∙ ap (λ n. take n t.items) (sym size);
      within = omega (arith, size, prefix.within);
      ends = All-permutation Ends h rs back
          (All-weaker (λ r. r.first + r.count ≤ (place_after t start h).given) Ends (λ r below. omega (arith, size, below)) h (run-within t start h run.0));
      told = All-permutation Tells h rs back (λ k d less is. ap (λ b. cond b t.ending None) (list_any_at (λ r. is_end r.tail) h k d less is));
    }

-- ---- results of the first items

module _ {L T : Type 0} (meaning : L → Meaning T) (worker : List (Op L)) where
  -- a cut of a source is one of its first items, or after them
  cut-first : (xs ys : List T) (cut : ℕ) → is_cut meaning worker (xs ++ ys) cut ≡ true → (is_cut meaning worker xs cut ≡ true) ⊎ (length xs ≤ cut)
  cut-first xs ys cut is =
      elim (or_cases (cut == no_cut) (is_among (stop_keys meaning worker 0 (xs ++ ys)) cut) is) [
        | inl none ↦ inl (or_left (cut == no_cut) _ none)
        | inr stop_key ↦
            let both : (is_among (stop_keys meaning worker 0 xs) cut || is_among (stop_keys meaning worker (0 + length xs) ys) cut) ≡ true =
            sym (list_any-append (λ j. cut == j) (stop_keys meaning worker 0 xs) (stop_keys meaning worker (0 + length xs) ys))
            ∙ ap (λ ks. is_among ks cut) (sym (stop_keys-append meaning worker 0 xs ys))
            ∙ stop_key in
            elim (or_cases (is_among (stop_keys meaning worker 0 xs) cut) (is_among (stop_keys meaning worker (0 + length xs) ys) cut) both) [
              | inl here ↦ inl (or_right (cut == no_cut) _ here)
              | inr later ↦ inr (omega (arith, stop_keys-above meaning worker (0 + length xs) ys cut later))
            ]
      ]

  -- a cut after a chunk cuts nothing off
  result-uncut : (cut : ℕ) (chunk : Chunk T) (r : ChunkResult T) → chunk.first + length chunk.items.items ≤ cut
      → chunk.first + length chunk.items.items ≤ 2 ^ 40
      → IsChunkResult meaning worker cut chunk r → IsChunkResult meaning worker no_cut chunk r
  result-uncut cut chunk r above few made =
      let same = chunk_answer-above meaning worker cut no_cut chunk.first chunk.items.items (omega (arith, above)) (omega (arith, few)) in
      record {
        first = made.first;
        count = made.count;
        items = made.items ∙ ap (λ (a : ChunkAnswer T). a.trace.items) same;
        ending = subst (λ (a : ChunkAnswer T). MatchBool a.dropped (r.ending ≡ Dropped) (IsToldBy r.ending a.trace.ending)) same made.ending;
        stop = made.stop ∙ ap (λ (a : ChunkAnswer T). a.stop) same;
        tail = made.tail;
      }

  offer-first : (t first : Trace T) (r : ChunkResult T) → length t.items ≤ 2 ^ 40 → first.items ≡ take (length first.items) t.items
      → end_of_result r ≤ length first.items
      → (offer : IsOffer meaning worker t r) → (now : IsOffer meaning worker first r) × (offer.cut ≡ no_cut → now.cut ≡ no_cut)
  offer-first t first r few is within offer =
      let xs : List T = offer.chunk.items.items in
      let key : ℕ = offer.chunk.first in
      let rest : List T = drop (length first.items) t.items in
      let here : key + length xs ≤ length first.items = omega (arith, within, offer.made.first, offer.made.count) in
      let all : t.items ≡ first.items ++ rest = sym (take-append-drop (length first.items) t.items) ∙ ap (λ ys. ys ++ rest) (sym is) in
      let items : xs ≡ take (length xs) (drop key first.items) =
      offer.items
      ∙ ap (λ ys. take (length xs) (drop key ys)) all
      ∙ ap (take (length xs)) (drop-append-le key first.items rest (omega (arith, here)))
      ∙ take-append-le (length xs) (drop key first.items) rest (omega (arith, here, length-drop key first.items)) in
      elim (cut-first first.items rest offer.cut (ap (λ ys. is_cut meaning worker ys offer.cut) (sym all) ∙ offer.is_cut)) [
        | inl cut ↦ (record { cut = offer.cut; chunk = offer.chunk; is_cut = cut; within = here; items = items; made = offer.made }, λ none. none)
        | inr above ↦ (
          record {
            cut = no_cut;
            chunk = offer.chunk;
            is_cut = refl;
            within = here;
            items = items;
            made = result-uncut offer.cut offer.chunk r (omega (arith, here, above)) (omega (arith, few, offer.within)) offer.made;
          },
          λ none. refl,
        )
      ]

  -- a tail that gives the source's end gives that of its first items, which are all then
  told-first : (t first : Trace T) (key : ℕ) (tail : Option Tail) → length first.items ≤ length t.items → key ≤ length first.items
      → (is_end tail ≡ true → first.ending ≡ t.ending)
      → IfSome (told_at key tail) (EndsAt t) → IfSome (told_at key tail) (EndsAt first)
  told-first t first key None less within told at = tt
  told-first t first key (Some Closed) less within told at = tt
  told-first t first key (Some tail) less within told at = (omega (arith, less, within, at.0), told refl ∙ at.1)

pub result-covered : {L T : Type 0} (meaning : L → Meaning T) (plan : Plan L) (t first : Trace T) (records : List Record) (r : ChunkResult T)
    → length t.items ≤ 2 ^ 40 → Covers t records first → IsOffered (IsResult meaning plan t) records r → IsResult meaning plan first r
result-covered meaning plan t first records r few covers offered =
    let (k, entry, less, at, answers) = offered.1 in
    let ends : entry.first + entry.count ≤ length first.items = subst (λ (e : Record). e.first + e.count ≤ length first.items) at (covers.ends k entry less) in
    let told : is_end entry.tail ≡ true → first.ending ≡ t.ending =
    subst (λ (e : Record). is_end e.tail ≡ true → first.ending ≡ t.ending) at (covers.told k entry less) in
    let within : end_of_result r ≤ length first.items = omega (arith, ends, answers.first, answers.count) in
    let offer = offer-first meaning plan.worker.now t first r few covers.items within offered.0.offer in
    record {
      offer = offer.0;
      uncut = λ by. offer.1 (offered.0.uncut by);
      tail = told-first meaning plan.worker.now t first (end_of_result r) r.tail covers.within within
          (λ is. told (ap is_end (sym answers.tail) ∙ is)) offered.0.tail;
      within = within;
    }
