-- Folds a piece at a time: of a chunk's answer, and of what one thread feeds, of which the last piece waits.
use Rattle.plinq_run.proofs.RunWords.{◌≡◌, ℕ, ◌+◌, ◌<◌, ◌^◌, List, [], ◌∷◌, ◌++◌, length, Bool, true, false, cond, Option, Some, None, MatchBool, refl, ◌≤◌}
use Rattle.plinq_run.proofs.RunWords.{fold, sym, ◌∙◌, ap, arith, append_assoc, subst, Ending, Trace, open_trace, Meaning, Folding, fold_of, Chunk, Op, Dropped}
use Rattle.plinq_run.proofs.RunWords.{ChunkResult, ChunkAnswer, IsChunkResult, IsToldBy, Stage, seq, IsFed, IsFoldOf}
use Rattle.std.specs.{Prelude.suc, Prelude.nat_lt, Prelude.is_some, Global.Vec}
use Rattle.std.proofs.{Common.length-append, lemmas.List.Sums.fold-append}
use Rattle.plinq_ops.specs.{declared.frag_end.FragEnd.FragEnd, declared.frag_end.FragEnd.TheVariants.More, Sequential.first_items, Stage.some_takes_none}
use Rattle.plinq_ops.specs.{Fragment.fragment_of, Chunk.no_more, Chunk.dropped_at, Chunk.before_answer, Chunk.chunk_answer, Chunk.AfterItems, Feeding.FeedsFrom}
use Rattle.plinq_ops.proofs.{Fed.fed-none, Answered.fed-on, Answered.fed-over, Answered.least-over}
use Rattle.plinq_crew.specs.Results.{IsMadeOf}
use Rattle.plinq_run.specs.inner.{Folds.IsFoldOfChunk, SequentialFold.FoldsAll}

-- after an answer that of the items after it, unless the run stopped in the first
abbrev joined_by : {T : Type 0} → Bool → ChunkAnswer T → ChunkAnswer T → ChunkAnswer T
joined_by true a b = a
joined_by false a b = record { trace = record { items = a.trace.items ++ b.trace.items; ending = b.trace.ending }; dropped = b.dropped; stop = b.stop }

before-joined : {T : Type 0} (key : ℕ) (xs : List T) (stops : Bool) (a b : ChunkAnswer T)
    → before_answer key xs None (joined_by stops a b) ≡ joined_by stops (before_answer key xs None a) b
before-joined key xs true a b = refl
before-joined key xs false a b = rw (append_assoc xs a.trace.items b.trace.items)

more-fold_of : {T A O : Type 0} (f : Folding T A O) (acc : A) (out more : List T) → acc ≡ fold_of f out → fold f.update acc more ≡ fold_of f (out ++ more)
more-fold_of f acc out more same = ap (λ a. fold f.update a more) same ∙ sym (fold-append f.update f.seed out more)

module _ {L T : Type 0} (meaning : L → Meaning T) (worker : List (Op L)) (cut : ℕ) where
  answer-append : (key : ℕ) (xs ys : List T)
      → chunk_answer meaning worker cut key (xs ++ ys)
      ≡ joined_by (is_some (chunk_answer meaning worker cut key xs).stop) (chunk_answer meaning worker cut key xs)
      (chunk_answer meaning worker cut (key + length xs) ys)
  answer-append key [] ys = let same : key + 0 ≡ key = omega arith in rw same refl
  answer-append key (x ∷ xs) ys =
      let before : Option Ending → ChunkAnswer T → ChunkAnswer T = before_answer key (fragment_of meaning worker key x).items in
      let a : ChunkAnswer T = chunk_answer meaning worker cut (key + 1) xs in
      let all : ChunkAnswer T = chunk_answer meaning worker cut (key + 1) (xs ++ ys) in
      let b : ChunkAnswer T = chunk_answer meaning worker cut (key + suc (length xs)) ys in
      let place : (key + 1) + length xs ≡ key + suc (length xs) = omega arith in
      let rest : all ≡ joined_by (is_some a.stop) a b =
      answer-append (key + 1) xs ys ∙ ap (λ k. joined_by (is_some a.stop) a (chunk_answer meaning worker cut k ys)) place in
      let by_ending : (e : Option Ending) → before e all ≡ joined_by (is_some (before e a).stop) (before e a) b =
      elim [
        | None ↦ ap (before None) rest ∙ before-joined key (fragment_of meaning worker key x).items (is_some a.stop) a b
        | Some e ↦ refl
      ] in
      let e : Option Ending = (fragment_of meaning worker key x).ending in
      elim (nat_lt cut key) as (λ v. cond v (dropped_at key) (before e all)
      ≡ joined_by (is_some (cond v (dropped_at key) (before e a)).stop) (cond v (dropped_at key) (before e a)) b) [
        | true ↦ refl
        | false ↦ by_ending e
      ]

  module _ {A O : Type 0} (f : Folding T A O) where
    -- what the pieces so far gave is folded, and the answer of the rest gives that of all
    pub record HasFoldedTo (all : ChunkAnswer T) (first : ℕ) (rest : List T) (acc : A) (count : ℕ) : Type 0 where
      pub out : List T
      pub after : AfterItems [] out (chunk_answer meaning worker cut first rest) all
      pub same : acc ≡ fold_of f out
      pub counted : length out ≡ count

    -- a piece that leaves the run open
    pub folded-piece : (all : ChunkAnswer T) (first : ℕ) (rest block others : List T) (acc acc' : A) (count : ℕ) (chunk : Chunk T) (r : ChunkResult T)
        → rest ≡ block ++ others → chunk.first ≡ first → chunk.items.items ≡ block → IsChunkResult meaning worker cut chunk r → is_some r.stop ≡ false
        → acc' ≡ fold f.update acc r.items.items → HasFoldedTo all first rest acc count
        → HasFoldedTo all (first + length block) others acc' (count + length r.items.items)
    folded-piece all first rest block others acc acc' count chunk r parts at is made is_open next before =
        let a : ChunkAnswer T = chunk_answer meaning worker cut first block in
        let b : ChunkAnswer T = chunk_answer meaning worker cut (first + length block) others in
        let made_items : r.items.items ≡ a.trace.items = rw (at, is) at made.items in
        let made_stop : r.stop ≡ a.stop = rw (at, is) at made.stop in
        let whole : chunk_answer meaning worker cut first rest ≡ joined_by false a b =
        rw (parts, answer-append first block others, ← made_stop, is_open) in
        let after = subst (λ u. AfterItems [] before.out u all) whole before.after in
        record {
          out = before.out ++ r.items.items;
          after = record {
            items = after.items ∙ ap (λ zs. before.out ++ (zs ++ b.trace.items)) (sym made_items) ∙ sym (append_assoc before.out r.items.items b.trace.items);
            ending = after.ending;
            dropped = after.dropped;
            stop = after.stop;
          };
          same = next ∙ more-fold_of f acc before.out r.items.items before.same;
          counted = length-append before.out r.items.items ∙ ap (λ n. n + length r.items.items) before.counted;
        }

    -- with the last of it the answer is that of the chunk
    folded-last : (chunk : Chunk T) (first : ℕ) (rest : List T) (acc acc' : A) (count : ℕ) (c : ChunkResult A) (last : ChunkAnswer T) (how : FragEnd)
        → HasFoldedTo (chunk_answer meaning worker cut chunk.first chunk.items.items) first rest acc count → chunk_answer meaning worker cut first rest ≡ last
        → MatchBool last.dropped (how ≡ Dropped) (IsToldBy how last.trace.ending) → acc' ≡ fold f.update acc last.trace.items
        → count + length last.trace.items < 2 ^ 63 → IsFoldOfChunk chunk acc' how last.stop c → IsMadeOf meaning (IsFoldOf f) worker cut chunk c
    folded-last chunk first rest acc acc' count c last how before is ends next few told =
        let more : List T = last.trace.items in
        let out : List T = before.out ++ more in
        let all : ChunkAnswer T = chunk_answer meaning worker cut chunk.first chunk.items.items in
        let after = subst (λ u. AfterItems [] before.out u all) is before.after in
        let ending : MatchBool all.dropped (how ≡ Dropped) (IsToldBy how all.trace.ending) = rw (after.dropped, after.ending) ends in
        let long : length out ≡ count + length more = length-append before.out more ∙ ap (λ n. n + length more) before.counted in
        let small : length out < 2 ^ 63 = omega (arith, long, few) in
        let list : Vec T =
        record { ptr = chunk.items.ptr; len = length out; cap = length out; alloc = chunk.items.alloc; items = out; ok = (refl, omega arith); small = small } in
        let same : acc' ≡ fold_of f out = next ∙ more-fold_of f acc before.out more before.same in
        record {
          result = record { first = c.first; count = c.count; items = list; ending = how; stop = last.stop; tail = c.tail };
          is = record { first = told.first; count = told.count; items = sym after.items; ending = ending; stop = sym after.stop; tail = told.tail };
          made = record { first = refl; count = refl; items = told.items ∙ ap (λ a. a ∷ []) same; ending = told.ending; stop = told.stop; tail = refl };
          same = record { first = refl; count = refl; ending = told.ending; stop = told.stop; tail = refl };
        }

    -- no item is left
    pub folded-all : (chunk : Chunk T) (first : ℕ) (rest : List T) (acc : A) (count : ℕ) (c : ChunkResult A) → rest ≡ [] → count < 2 ^ 63
        → HasFoldedTo (chunk_answer meaning worker cut chunk.first chunk.items.items) first rest acc count → IsFoldOfChunk chunk acc More None c
        → IsMadeOf meaning (IsFoldOf f) worker cut chunk c
    folded-all chunk first rest acc count c none few before told =
        folded-last chunk first rest acc acc count c no_more More before (ap (chunk_answer meaning worker cut first) none) refl refl (omega (arith, few)) told

    -- a piece in which the run stopped
    pub folded-stopped : (chunk : Chunk T) (first : ℕ) (rest block others : List T) (acc acc' : A) (count : ℕ) (piece : Chunk T) (r : ChunkResult T)
        (c : ChunkResult A)
        → rest ≡ block ++ others → piece.first ≡ first → piece.items.items ≡ block → IsChunkResult meaning worker cut piece r → is_some r.stop ≡ true
        → acc' ≡ fold f.update acc r.items.items → count + length r.items.items < 2 ^ 63
        → HasFoldedTo (chunk_answer meaning worker cut chunk.first chunk.items.items) first rest acc count → IsFoldOfChunk chunk acc' r.ending r.stop c
        → IsMadeOf meaning (IsFoldOf f) worker cut chunk c
    folded-stopped chunk first rest block others acc acc' count piece r c parts at is made stopped next few before told =
        let a : ChunkAnswer T = chunk_answer meaning worker cut first block in
        let b : ChunkAnswer T = chunk_answer meaning worker cut (first + length block) others in
        let made_items : r.items.items ≡ a.trace.items = rw (at, is) at made.items in
        let made_stop : r.stop ≡ a.stop = rw (at, is) at made.stop in
        let whole : chunk_answer meaning worker cut first rest ≡ a = rw (parts, answer-append first block others, ← made_stop, stopped) in
        folded-last chunk first rest acc acc' count c a r.ending before whole (rw (at, is) at made.ending) (next ∙ ap (fold f.update acc) made_items)
        (omega (arith, few, ap length made_items)) (subst (λ s. IsFoldOfChunk chunk acc' r.ending s c) made_stop told)

-- ---- on one thread

module _ {T A O : Type 0} (f : Folding T A O) (ss : List (Stage T)) where
  -- these first items were fed; with the piece folded too, the accumulator is that of what came out
  pub record HasFolded (t : Trace T) (acc : A) (piece : List T) (ss' : List (Stage T)) (ending : Option Ending) : Type 0 where
    pub out : List T
    pub fed : IsFed ss t [] out ss' ending
    pub same : fold f.update acc piece ≡ fold_of f out

  pub folded-none : some_takes_none ss ≡ false → HasFolded (open_trace []) f.seed [] ss None
  folded-none undecided = record { out = []; fed = fed-none ss [] undecided; same = refl }

  -- a piece folded
  pub folded-full : (t : Trace T) (acc acc' : A) (piece piece' : List T) (ss' : List (Stage T)) → fold f.update acc' piece' ≡ fold f.update acc piece
      → HasFolded t acc piece ss' None → HasFolded t acc' piece' ss' None
  folded-full t acc acc' piece piece' ss' stays before = record { out = before.out; fed = before.fed; same = stays ∙ before.same }

  -- what the source gave next
  module _ (ss' ss'' : List (Stage T)) (t : Trace T) (n m : ℕ) (acc : A) (piece piece' : List T) (before : HasFolded (first_items n t) acc piece ss' None) where
    -- what comes out stands after what came before, and is folded after it
    feeds-after : (e : Option Ending) (next : FeedsFrom ss' t n m piece piece' ss'' e)
        → FeedsFrom ss' t n m before.out (before.out ++ (seq ss' next.piece).items) ss'' e
    feeds-after e next = record { piece = next.piece; given = next.given; fed = record { items = refl; told = next.fed.told; left = next.fed.left } }

    same-after : (e : Option Ending) (next : FeedsFrom ss' t n m piece piece' ss'' e)
        → fold f.update acc piece' ≡ fold_of f (before.out ++ (seq ss' next.piece).items)
    same-after e next =
        let more : List T = (seq ss' next.piece).items in
        ap (fold f.update acc) next.fed.items ∙ fold-append f.update acc piece more ∙ more-fold_of f (fold f.update acc piece) before.out more before.same

    -- leaves the answer open
    pub folded-on : FeedsFrom ss' t n m piece piece' ss'' None → HasFolded (first_items m t) acc piece' ss'' None
    folded-on next =
        record {
          out = before.out ++ (seq ss' next.piece).items;
          fed = fed-on ss ss' ss'' t n m [] before.out (before.out ++ (seq ss' next.piece).items) before.fed (feeds-after None next);
          same = same-after None next;
        }

    -- or it decides the answer, which is folded
    pub finished : (acc' : A) (e : Ending) → m ≤ n + 1 → FeedsFrom ss' t n m piece piece' ss'' (Some e) → acc' ≡ fold f.update acc piece'
        → FoldsAll f ss t m (record { acc = acc'; ending = e })
    finished acc' e one next is =
        let out : List T = before.out ++ (seq ss' next.piece).items in
        let last = feeds-after (Some e) next in
        let all : IsFed ss t [] out ss'' (Some e) = fed-over ss ss' ss'' t n m [] before.out out e before.fed last in
        record {
          folded = record { ending = sym all.told; acc = is ∙ same-after (Some e) next ∙ ap (fold_of f) all.items };
          least = least-over ss ss' ss'' t n m [] before.out out e one before.fed last;
        }
