-- A cut at a key that ends the run changes no answer of a chunk that the run reaches.
use Rattle.std.specs.Prelude.{◌≡◌, ℕ, ◌+◌, ◌≤◌, ◌==◌, List, [], ◌∷◌, ◌++◌, length, true, false, cond, Option, Some, None, is_some, nat_lt, ◌≢◌, MatchBool, refl}
use Rattle.std.proofs.Common.{sym, ◌∙◌, ap, inl, inr, arith}
use Rattle.std.proofs.lemmas.Bool.{or_cases, or_left, eqb-true, eq-eqb}
use Rattle.plinq_source.specs.declared.ending.Ending.{Ending}
use Rattle.plinq_source.specs.Trace.{Trace}
use Rattle.plinq_source.proofs.Followed.{trace_of}
use Rattle.plinq_lambda.specs.Meaning.{Meaning}
use Rattle.plinq_keyed.specs.declared.chunk.Chunk.{Chunk}
use Rattle.plinq_keyed.specs.Keys.{is_among}
use Rattle.plinq_ops.specs.declared.op.Op.{Op}
use Rattle.plinq_ops.specs.declared.frag_end.FragEnd.{FragEnd}
use Rattle.plinq_ops.specs.declared.frag_end.FragEnd.TheVariants.{More, End as EndsHere, Fault as Faults, Dropped}
use Rattle.plinq_ops.specs.declared.results.ChunkResult.{ChunkResult}
use Rattle.plinq_ops.specs.Fragment.{fragment_of, glued_trace}
use Rattle.plinq_ops.specs.Chunk.{ChunkAnswer, IsToldBy, run_ending, result_trace, dropped_at, before_answer, chunk_answer, IsChunkResult}
use Rattle.plinq_ops.specs.Cut.{stop_keys, no_cut, is_cut, most_items}
use Rattle.plinq_ops.proofs.Open.{open-from_continued, open_after}
use Rattle.plinq_ops.proofs.Chunks.{chunk_answer-cons}

-- the keys that end the run are among those of the items
pub stop_keys-above : {L T : Type 0} (meaning : L → Meaning T) (worker : List (Op L)) (key : ℕ) (xs : List T) (k : ℕ)
    → is_among (stop_keys meaning worker key xs) k ≡ true → key ≤ k
stop_keys-above meaning worker key [] k among = absurd (cc)
stop_keys-above meaning worker key (x ∷ xs) k among =
    elim (is_some (fragment_of meaning worker key x).ending) as (λ v. is_among (cond v (key ∷ stop_keys meaning worker (key + 1) xs)
    (stop_keys meaning worker (key + 1) xs)) k ≡ true → key ≤ k) [
      | true ↦ λ here. elim (or_cases (k == key) _ here) [
        | inl is ↦ omega (arith, eqb-true k key is)
        | inr later ↦ omega (arith, stop_keys-above meaning worker (key + 1) xs k later)
      ]
      | false ↦ λ later. omega (arith, stop_keys-above meaning worker (key + 1) xs k later)
    ] among

pub stop_keys-append : {L T : Type 0} (meaning : L → Meaning T) (worker : List (Op L)) (key : ℕ) (xs ys : List T)
    → stop_keys meaning worker key (xs ++ ys) ≡ stop_keys meaning worker key xs ++ stop_keys meaning worker (key + length xs) ys
stop_keys-append meaning worker key [] ys = ap (λ k. stop_keys meaning worker k ys) (let same : key ≡ key + 0 = omega arith in same)
stop_keys-append meaning worker key (x ∷ xs) ys =
    let same : (key + 1) + length xs ≡ key + length (x ∷ xs) = omega arith in
    let later : stop_keys meaning worker (key + 1) (xs ++ ys) ≡ stop_keys meaning worker (key + 1) xs ++ stop_keys meaning worker (key + length (x ∷ xs)) ys =
    stop_keys-append meaning worker (key + 1) xs ys ∙ ap (λ k. stop_keys meaning worker (key + 1) xs ++ stop_keys meaning worker k ys) same in
    elim (is_some (fragment_of meaning worker key x).ending) as (λ v. cond v (key ∷ stop_keys meaning worker (key + 1) (xs ++ ys))
    (stop_keys meaning worker (key + 1) (xs ++ ys))
    ≡ cond v (key ∷ stop_keys meaning worker (key + 1) xs) (stop_keys meaning worker (key + 1) xs) ++ stop_keys meaning worker (key + length (x ∷ xs)) ys) [
      | true ↦ ap (λ ks. key ∷ ks) later
      | false ↦ later
    ]

-- open fragments end no run
stop_keys-none : {L T : Type 0} (meaning : L → Meaning T) (worker : List (Op L)) (key : ℕ) (xs : List T)
    → (glued_trace meaning worker key xs None).ending ≡ None → stop_keys meaning worker key xs ≡ []
stop_keys-none meaning worker key [] is_open = refl
stop_keys-none {L} {T} meaning worker key (x ∷ xs) is_open =
    let f : Trace T = fragment_of meaning worker key x in
    let rest : Trace T = glued_trace meaning worker (key + 1) xs None in
    let first : f.ending ≡ None = open-from_continued f.items f.ending rest is_open in
    rw first (stop_keys-none meaning worker (key + 1) xs (open_after f.items f.ending rest first is_open))

-- after open fragments the keys that end the run are those of the items that follow
pub stop_keys-after : {L T : Type 0} (meaning : L → Meaning T) (worker : List (Op L)) (key : ℕ) (xs ys : List T)
    → (glued_trace meaning worker key xs None).ending ≡ None
    → stop_keys meaning worker key (xs ++ ys) ≡ stop_keys meaning worker (key + length xs) ys
stop_keys-after meaning worker key xs ys is_open =
    stop_keys-append meaning worker key xs ys ∙ ap (λ ks. ks ++ stop_keys meaning worker (key + length xs) ys) (stop_keys-none meaning worker key xs is_open)

-- a cut that no key of the items is above
pub chunk_answer-above : {L T : Type 0} (meaning : L → Meaning T) (worker : List (Op L)) (cut cut' key : ℕ) (xs : List T) → key + length xs ≤ cut + 1
    → key + length xs ≤ cut' + 1
    → chunk_answer meaning worker cut key xs ≡ chunk_answer meaning worker cut' key xs
chunk_answer-above meaning worker cut cut' key [] above above' = refl
chunk_answer-above {L} {T} meaning worker cut cut' key (x ∷ xs) above above' =
    let f : Trace T = fragment_of meaning worker key x in
    chunk_answer-cons meaning worker cut key x xs (omega arith)
    ∙ ap (before_answer key f.items f.ending) (chunk_answer-above meaning worker cut cut' (key + 1) xs (omega arith) (omega arith))
    ∙ sym (chunk_answer-cons meaning worker cut' key x xs (omega arith))

-- a cut at a key that ends the run of these items and others after them
pub chunk_answer-at_stop_key : {L T : Type 0} (meaning : L → Meaning T) (worker : List (Op L)) (cut cut' key : ℕ) (xs ys : List T)
    → is_among (stop_keys meaning worker key (xs ++ ys)) cut ≡ true
    → key + length xs ≤ cut' + 1 → chunk_answer meaning worker cut key xs ≡ chunk_answer meaning worker cut' key xs
chunk_answer-at_stop_key meaning worker cut cut' key [] ys stop_key above = refl
chunk_answer-at_stop_key {L} {T} meaning worker cut cut' key (x ∷ xs) ys stop_key above =
    let f : Trace T = fragment_of meaning worker key x in
    let later : List ℕ = stop_keys meaning worker (key + 1) (xs ++ ys) in
    let before : Option Ending → ℕ → ChunkAnswer T = λ e c. before_answer key f.items e (chunk_answer meaning worker c (key + 1) xs) in
    let same : before f.ending cut ≡ before f.ending cut' =
    elim f.ending as (λ v. is_among (cond (is_some v) (key ∷ later) later) cut ≡ true → before v cut ≡ before v cut') [
      | None ↦ λ there. ap (before_answer key f.items None) (chunk_answer-at_stop_key meaning worker cut cut' (key + 1) xs ys there (omega arith))
      | Some e ↦ λ there. refl
    ] stop_key in
    chunk_answer-cons meaning worker cut key x xs (stop_keys-above meaning worker key (x ∷ xs ++ ys) cut stop_key)
    ∙ same
    ∙ sym (chunk_answer-cons meaning worker cut' key x xs (omega arith))

-- nothing is dropped below the cut
pub undropped-uncut : {L T : Type 0} (meaning : L → Meaning T) (worker : List (Op L)) (cut key : ℕ) (xs : List T) → key + length xs ≤ cut + 1
    → (chunk_answer meaning worker cut key xs).dropped ≡ false
undropped-uncut meaning worker cut key [] above = refl
undropped-uncut {L} {T} meaning worker cut key (x ∷ xs) above =
    let f : Trace T = fragment_of meaning worker key x in
    let rest : ChunkAnswer T = chunk_answer meaning worker cut (key + 1) xs in
    ap (λ a. a.dropped) (chunk_answer-cons meaning worker cut key x xs (omega arith))
    ∙ elim f.ending as (λ v. (before_answer key f.items v rest).dropped ≡ false) [
      | None ↦ undropped-uncut meaning worker cut (key + 1) xs (omega arith)
      | Some e ↦ refl
    ]

-- a cut of a source, at a chunk that the run reaches
pub chunk_answer-reached : {L T : Type 0} (meaning : L → Meaning T) (worker : List (Op L)) (items before xs ys : List T) (cut cut' first : ℕ)
    → is_cut meaning worker items cut ≡ true
    → items ≡ before ++ (xs ++ ys) → first ≡ length before → (glued_trace meaning worker 0 before None).ending ≡ None → first + length xs ≤ most_items
    → first + length xs ≤ cut' + 1
    → chunk_answer meaning worker cut first xs ≡ chunk_answer meaning worker cut' first xs
chunk_answer-reached meaning worker items before xs ys cut cut' first legal parts place is_open few above =
    elim (or_cases (cut == no_cut) (is_among (stop_keys meaning worker 0 items) cut) legal) [
      | inl none ↦ chunk_answer-above meaning worker cut cut' first xs (omega (arith, eqb-true cut no_cut none)) above
      | inr stop_key ↦
          let past : stop_keys meaning worker 0 items ≡ stop_keys meaning worker first (xs ++ ys) =
          ap (stop_keys meaning worker 0) parts ∙ stop_keys-after meaning worker 0 before (xs ++ ys) is_open
          ∙ ap (λ k. stop_keys meaning worker k (xs ++ ys)) (let same : 0 + length before ≡ first = omega (arith, place) in same) in
          chunk_answer-at_stop_key meaning worker cut cut' first xs ys (ap (λ ks. is_among ks cut) (sym past) ∙ stop_key) above
    ]

-- what a result says of its ending
told-is : (told : FragEnd) (e : Option Ending) → IsToldBy told e → run_ending told ≡ e
told-is More e is = sym is
told-is EndsHere e is = sym is
told-is (Faults code) e is = sym is
told-is Dropped e is = absurd is

pub told-undropped : (told : FragEnd) (e : Option Ending) → IsToldBy told e → told ≢ Dropped
told-undropped told e is dropped = let bad : IsToldBy Dropped e = rw dropped at is in bad

-- a result that dropped nothing gives its chunk's answer
pub result-is : {L T : Type 0} (meaning : L → Meaning T) (worker : List (Op L)) (cut : ℕ) (chunk : Chunk T) (r : ChunkResult T)
    → IsChunkResult meaning worker cut chunk r
    → (chunk_answer meaning worker cut chunk.first chunk.items.items).dropped ≡ false
    → (result_trace r ≡ (chunk_answer meaning worker cut chunk.first chunk.items.items).trace) × (r.ending ≢ Dropped)
result-is {L} {T} meaning worker cut chunk r made kept =
    let a : ChunkAnswer T = chunk_answer meaning worker cut chunk.first chunk.items.items in
    let told : IsToldBy r.ending a.trace.ending = rw kept at made.ending in (
      ap (λ xs. trace_of xs (run_ending r.ending)) made.items ∙ ap (trace_of a.trace.items)
          (told-is r.ending a.trace.ending told),
      told-undropped r.ending a.trace.ending told,
    )

-- a result that isn't reported as dropped dropped nothing
pub kept-from_told : {L T : Type 0} (meaning : L → Meaning T) (worker : List (Op L)) (cut : ℕ) (chunk : Chunk T) (r : ChunkResult T)
    → IsChunkResult meaning worker cut chunk r → r.ending ≢ Dropped
    → (chunk_answer meaning worker cut chunk.first chunk.items.items).dropped ≡ false
kept-from_told {L} {T} meaning worker cut chunk r made undropped =
    let a : ChunkAnswer T = chunk_answer meaning worker cut chunk.first chunk.items.items in
    elim a.dropped as (λ v. MatchBool v (r.ending ≡ Dropped) (IsToldBy r.ending a.trace.ending) → v ≡ false) [
      | true ↦ λ dropped. absurd (undropped dropped)
      | false ↦ λ told. refl
    ] made.ending

-- the key at which an answer stopped that dropped nothing ends the run
pub stop-stops_at : {L T : Type 0} (meaning : L → Meaning T) (worker : List (Op L)) (cut key : ℕ) (xs : List T) (k : ℕ)
    → (chunk_answer meaning worker cut key xs).dropped ≡ false
    → (chunk_answer meaning worker cut key xs).stop ≡ Some k → is_among (stop_keys meaning worker key xs) k ≡ true
stop-stops_at meaning worker cut key [] k kept stop = absurd (cc)
stop-stops_at {L} {T} meaning worker cut key (x ∷ xs) k kept stop =
    let f : Trace T = fragment_of meaning worker key x in
    let rest : ChunkAnswer T = chunk_answer meaning worker cut (key + 1) xs in
    let later : List ℕ = stop_keys meaning worker (key + 1) xs in
    elim (nat_lt cut key) as (λ v. (cond v (dropped_at key) (before_answer key f.items f.ending rest)).dropped ≡ false
    → (cond v (dropped_at key) (before_answer key f.items f.ending rest)).stop ≡ Some k
    → is_among (cond (is_some f.ending) (key ∷ later) later) k ≡ true) [
      | true ↦ λ bad. absurd (cc)
      | false ↦ elim f.ending as (λ v. (before_answer key f.items v rest).dropped ≡ false → (before_answer key f.items v rest).stop ≡ Some k
          → is_among (cond (is_some v) (key ∷ later) later) k ≡ true) [
            | None ↦ stop-stops_at meaning worker cut (key + 1) xs k
            | Some e ↦ λ goes_on here. let same : key ≡ k = cc in or_left (k == key) _ (eq-eqb k key (sym same))
          ]
    ] kept stop
