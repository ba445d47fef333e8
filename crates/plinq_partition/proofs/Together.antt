-- What partitions took together is one history's chunks.
use Rattle.std.proofs.Common.{◌≡◌, ℕ, List, [], ◌∷◌, ◌++◌, Option, Some, None, Bool, true, false, cond, leb, refl, ap, sym, subst, ◌∙◌, arith}
use Rattle.std.proofs.Common.{append_assoc, append-nil}
use Rattle.std.specs.List.{AllZip, FoldsTo}
use Rattle.plinq_source.specs.Trace.{Trace, items_from}
use Rattle.plinq_keyed.specs.declared.chunk.Chunk.{Chunk}
use Rattle.plinq_keyed.specs.declared.event.Event.TheVariants.{Close}
use Rattle.plinq_keyed.specs.declared.record.Record.{Record}
use Rattle.plinq_keyed.specs.History.{reply, request_record, handed_out, record_items, IsChunkOf}
use Rattle.plinq_keyed.specs.Keys.{keyed_from}
use Rattle.plinq_keyed.proofs.Legal.{IsPrefix-from_legal}
use Rattle.plinq_enumerator.specs.Growing.{GrowthRule}
use Rattle.plinq_ticket.specs.Shares.{placed_records, in_ticket_order}
use Rattle.plinq_ticket.specs.Weights.{total}
use Rattle.plinq_partition.specs.Partitions.{Holding}
use Rattle.plinq_partition.specs.Together.{Does, HasDone, records_of, IsOf, elements_of, all_elements, all_acts, TakesAreOneHistory}

module _ {A B : Type 0} (R : A → B → Type 0) where
  zip-append : (xs : List A) (ys : List B) (us : List A) (vs : List B) → AllZip R xs ys → AllZip R us vs → AllZip R (xs ++ us) (ys ++ vs)
  zip-append [] [] us vs first second = second
  zip-append [] (y ∷ ys) us vs first second = absurd first
  zip-append (x ∷ xs) [] us vs first second = absurd first
  zip-append (x ∷ xs) (y ∷ ys) us vs first second = (first.0, zip-append xs ys us vs first.1 second)

-- what stands beside records goes with them to their places
pub record IsPlaced {B : Type 0} (R : Record → B → Type 0) (rs : List Record) (ys : List B) : Type 0 where
  pub there : List B
  pub are : AllZip R rs there
  pub each_once : (weight : B → ℕ) → total weight there ≡ total weight ys

module _ {B : Type 0} (R : Record → B → Type 0) where
  placed_records-with : (r : Record) (y : B) (rs : List Record) (ys : List B) → R r y → AllZip R rs ys → IsPlaced R (placed_records r rs) (y ∷ ys)
  placed_records-with r y [] [] one all = record { there = y ∷ []; are = (one, tt); each_once = λ w. refl }
  placed_records-with r y [] (z ∷ zs) one all = absurd all
  placed_records-with r y (x ∷ xs) [] one all = absurd all
  placed_records-with r y (x ∷ xs) (z ∷ zs) one all = by (leb r.ticket x.ticket) (placed_records-with r y xs zs one all.1)
    where
      by : (b : Bool) → IsPlaced R (placed_records r xs) (y ∷ zs) → IsPlaced R (cond b (r ∷ x ∷ xs) (x ∷ placed_records r xs)) (y ∷ z ∷ zs)
      by true rest = record { there = y ∷ z ∷ zs; are = (one, all); each_once = λ w. refl }
      by false rest = record { there = z ∷ rest.there; are = (all.0, rest.are); each_once = λ w. let same = rest.each_once w in omega arith }

  ordered-with : (rs : List Record) (ys : List B) → AllZip R rs ys → IsPlaced R (in_ticket_order rs) ys
  ordered-with [] [] all = record { there = []; are = tt; each_once = λ w. refl }
  ordered-with [] (y ∷ ys) all = absurd all
  ordered-with (r ∷ rs) [] all = absurd all
  ordered-with (r ∷ rs) (y ∷ ys) all =
      let rest = ordered-with rs ys all.1 in
      let here = placed_records-with r y (in_ticket_order rs) rest.there all.0 rest.are in
      record { there = here.there; are = here.are; each_once = λ w. let first = here.each_once w in let second = rest.each_once w in omega arith }

module _ {T : Type 0} (growth : GrowthRule) (t : Trace T) where
  -- one thing that was done is one record more
  record Grows (a b : Holding T) (act : Option (Chunk T)) : Type 0 where
    entry : Record
    origin : b.origin ≡ t
    share : b.share ≡ a.share ++ entry ∷ []
    is : IsOf t entry act

  grown : (a b : Holding T) (act : Option (Chunk T)) → a.origin ≡ t → Does growth a act b → Grows a b act
  grown a b (Some chunk) here taken =
      record {
        entry = taken.entry;
        origin = taken.adds.origin ∙ here;
        share = taken.adds.share;
        is = subst (λ u. IsChunkOf u taken.entry chunk) here taken.of;
      }
  grown a b None here stopped =
      let adds = stopped.adds in
      let closed : stopped.entry ≡ request_record stopped.entry.ticket Close (reply a.origin adds.place Close) =
      adds.replied ∙ ap (λ e. request_record stopped.entry.ticket e (reply a.origin adds.place e)) adds.asked_is in
      record {
        entry = stopped.entry;
        origin = adds.origin ∙ here;
        share = adds.share;
        is = (adds.asked_is, ap (λ (r : Record). r.count) closed);
      }

  -- and several are several
  record GrowsBy (a b : Holding T) (acts : List (Option (Chunk T))) : Type 0 where
    more : List Record
    share : b.share ≡ a.share ++ more
    are : AllZip (IsOf t) more acts

  grown-by : (a b : Holding T) (acts : List (Option (Chunk T))) → a.origin ≡ t → FoldsTo (Does growth) a acts b → GrowsBy a b acts
  grown-by a b [] here done = record { more = []; share = ap (λ (p : Holding T). p.share) (sym done) ∙ sym (append-nil a.share); are = tt }
  grown-by a b (act ∷ acts) here (m, first, rest) =
      let one = grown a m act here first in
      let others = grown-by m b acts one.origin rest in
      record {
        more = one.entry ∷ others.more;
        share = others.share ∙ ap (λ rs. rs ++ others.more) one.share ∙ append_assoc a.share (one.entry ∷ []) others.more;
        are = (one.is, others.are);
      }

  all-grown : (ps : List (Holding T)) (acts : List (List (Option (Chunk T)))) → AllZip (HasDone growth t) ps acts
      → AllZip (IsOf t) (records_of ps) (all_acts acts)
  all-grown [] [] all = tt
  all-grown [] (own ∷ acts) all = absurd all
  all-grown (p ∷ ps) [] all = absurd all
  all-grown (p ∷ ps) (own ∷ acts) all =
      let one = grown-by (record { origin = t; share = []; requests = 0 }) p own refl all.0 in
      zip-append (IsOf t) p.share own (records_of ps) (all_acts acts) (subst (λ rs. AllZip (IsOf t) rs own) (sym one.share) one.are) (all-grown ps acts all.1)

  of-one : (r : Record) (act : Option (Chunk T)) → IsOf t r act → elements_of act ≡ keyed_from r.first (record_items t r)
  of-one r (Some chunk) is = ap (λ k. keyed_from k chunk.items.items) is.first ∙ ap (keyed_from r.first) is.items
  of-one r None is = sym (ap (λ n. keyed_from r.first (items_from t r.first n)) is.1)

  of-all : (h : List Record) (acts : List (Option (Chunk T))) → AllZip (IsOf t) h acts → all_elements acts ≡ handed_out t h
  of-all [] [] all = refl
  of-all [] (act ∷ acts) all = absurd all
  of-all (r ∷ rs) [] all = absurd all
  of-all (r ∷ rs) (act ∷ acts) all =
      ap (λ xs. xs ++ all_elements acts) (of-one r act all.0) ∙ ap (λ ys. keyed_from r.first (record_items t r) ++ ys) (of-all rs acts all.1)

pub takes-one-history : (T : Type 0) → TakesAreOneHistory T
takes-one-history T growth t ps acts all legal =
    let h = in_ticket_order (records_of ps) in
    let placed = ordered-with (IsOf t) (records_of ps) (all_acts acts) (all-grown growth t ps acts all) in
    let handed = IsPrefix-from_legal t h legal in
    record {
      in_order = placed.there;
      each_once = placed.each_once;
      are = placed.are;
      elements = of-all growth t h placed.there placed.are ∙ handed.prefix;
    }
