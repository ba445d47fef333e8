-- What the worker part gives for a chunk.
use Rattle.std.specs.Prelude.{◌≡◌, refl, ℕ, pos, ◌+◌, List, [], ◌∷◌, ◌++◌, length, Bool, true, false}
use Rattle.std.specs.Prelude.{◌==◌, nat_lt, if◌then◌else◌, MatchBool, Option, Some, None, ⊤}
use Rattle.plinq_source.specs.declared.ending.Ending.{Ending}
use Rattle.plinq_source.specs.declared.ending.Ending.TheVariants.{End, Refused, Fault}
use Rattle.plinq_source.specs.Trace.{Trace, open_trace, ended_trace}
use Rattle.plinq_lambda.specs.Meaning.{Meaning}
use Rattle.plinq_keyed.specs.declared.chunk.Chunk.{Chunk}
use Rattle.plinq_ops.specs.declared.op.Op.{Op}
use Rattle.plinq_ops.specs.declared.op.Op.TheVariants.{Select, Take}
use Rattle.plinq_ops.specs.declared.frag_end.FragEnd.{FragEnd}
use Rattle.plinq_ops.specs.declared.frag_end.FragEnd.TheVariants.{More, End as EndsHere, Fault as Faults, Dropped}
use Rattle.plinq_ops.specs.declared.fragments.Fragment.{Fragment}
use Rattle.plinq_ops.specs.declared.results.ChunkResult.{ChunkResult}
use Rattle.plinq_ops.specs.declared.chunking.Stop.{Stop}
use Rattle.plinq_ops.specs.Operator.{example}
use Rattle.plinq_ops.specs.Fragment.{fragment_of}

-- the worker part never refuses
abbrev pub IsWorkerEnding : Option Ending → Type 0
IsWorkerEnding None = ⊤
IsWorkerEnding (Some End) = ⊤
IsWorkerEnding (Some (Refused code)) = ⊥
IsWorkerEnding (Some (Fault code)) = ⊤

-- what a fragment says of its ending
abbrev pub IsToldBy : FragEnd → Option Ending → Type 0
IsToldBy More e = e ≡ None
IsToldBy EndsHere e = e ≡ Some End
IsToldBy (Faults code) e = e ≡ Some (Fault code)
IsToldBy Dropped e = ⊥

-- nothing is said by Dropped: what was dropped isn't known
dropped_tells_nothing : IsToldBy Dropped None ≡ ⊥
dropped_tells_nothing = refl

-- a fragment is this trace
pub record IsFragment {T : Type 0} (t : Trace T) (f : Fragment T) : Type 0 where
  pub items : f.items.items ≡ t.items
  pub ending : IsToldBy f.ending t.ending

-- what the fragments of a chunk give: their trace, whether the rest was dropped, and the key at which they stopped
pub record ChunkAnswer (T : Type 0) : Type 0 where
  pub trace : Trace T
  pub dropped : Bool
  pub stop : Option ℕ

abbrev pub no_more : {T : Type 0} → ChunkAnswer T
no_more = record { trace = open_trace []; dropped = false; stop = None }

-- the rest is dropped from that key on
abbrev pub dropped_at : {T : Type 0} → ℕ → ChunkAnswer T
dropped_at key = record { trace = open_trace []; dropped = true; stop = Some key }

-- a fragment's items before an answer; one that ends the run is the last
abbrev pub before_answer : {T : Type 0} → ℕ → List T → Option Ending → ChunkAnswer T → ChunkAnswer T
before_answer key xs None a =
    record { trace = record { items = xs ++ a.trace.items; ending = a.trace.ending }; dropped = a.dropped; stop = a.stop }
before_answer key xs (Some e) a = record { trace = record { items = xs; ending = Some e }; dropped = false; stop = Some key }

-- the fragments of items whose keys count up from here, joined up to and with the first that ends the run, or up to
-- the first key above the cut
abbrev pub chunk_answer : {L T : Type 0} → (L → Meaning T) → List (Op L) → ℕ → ℕ → List T → ChunkAnswer T
chunk_answer meaning worker cut key [] = no_more
chunk_answer meaning worker cut key (x ∷ xs) =
    if nat_lt cut key then dropped_at key
    else before_answer key (fragment_of meaning worker key x).items (fragment_of meaning worker key x).ending
    (chunk_answer meaning worker cut (key + 1) xs)

-- a fault at key 8 is the stop of the keys 7, 8, 9, unless the cut comes before it
stopped_by_a_fault : chunk_answer {L = ℕ} (λ _. example) (Select 0 ∷ []) 8 7 (5 ∷ 0 ∷ 2 ∷ [])
    ≡ record { trace = ended_trace (4 ∷ []) (Fault 1); dropped = false; stop = Some 8 }
stopped_by_a_fault = refl

stopped_by_the_cut : chunk_answer {L = ℕ} (λ _. example) (Select 0 ∷ []) 7 7 (5 ∷ 0 ∷ 2 ∷ [])
    ≡ record { trace = open_trace (4 ∷ []); dropped = true; stop = Some 8 }
stopped_by_the_cut = refl

-- the element of key 2 is after the last that is taken, and stops a chunk that begins with it
stopped_after_a_take : chunk_answer {L = ℕ} (λ _. example) (Take (pos 2) ∷ []) 9 2 (7 ∷ 8 ∷ [])
    ≡ record { trace = ended_trace [] End; dropped = false; stop = Some 2 }
stopped_after_a_take = refl

-- a result reports the answer of a chunk: its items, its ending and its stop, beside the chunk's first key, number of
-- items and tail
pub record IsChunkResult {L T : Type 0} (meaning : L → Meaning T) (worker : List (Op L)) (cut : ℕ) (chunk : Chunk T) (r : ChunkResult T) : Type 0 where
  pub first : r.first ≡ chunk.first
  pub count : r.count ≡ length chunk.items.items
  pub items : r.items.items ≡ (chunk_answer meaning worker cut chunk.first chunk.items.items).trace.items
  pub ending : MatchBool (chunk_answer meaning worker cut chunk.first chunk.items.items).dropped
      (r.ending ≡ Dropped)
      (IsToldBy r.ending (chunk_answer meaning worker cut chunk.first chunk.items.items).trace.ending)
  pub stop : r.stop ≡ (chunk_answer meaning worker cut chunk.first chunk.items.items).stop
  pub tail : r.tail ≡ chunk.tail

-- how the run ended, as far as a fragment or a result says
abbrev pub run_ending : FragEnd → Option Ending
run_ending More = None
run_ending EndsHere = Some End
run_ending (Faults code) = Some (Fault code)
run_ending Dropped = None

dropped_ends_no_run : run_ending Dropped ≡ None
dropped_ends_no_run = refl

-- what a result gives
abbrev pub result_trace : {T : Type 0} → ChunkResult T → Trace T
result_trace r = record { items = r.items.items; ending = run_ending r.ending }

-- what was reported of a chunk's answer: where it stopped, and how it goes on
abbrev pub IsStop : {T : Type 0} → ChunkAnswer T → Option Stop → Type 0
IsStop a None = (a.stop ≡ None) × (a.dropped ≡ false) × (a.trace.ending ≡ None)
IsStop a (Some s) = (a.stop ≡ Some s.key) × MatchBool a.dropped (s.ending ≡ Dropped) (IsToldBy s.ending a.trace.ending)

-- where so many items stop whose first key stands after the last item of a Take
abbrev pub stop_over : ℕ → ℕ → ℕ → Option Stop
stop_over cut key n = if n == 0 then None else Some (record { key = key; ending = if nat_lt cut key then Dropped else EndsHere })

-- between `before` and `out` stand items after which the answer of the rest gives the answer of all
pub record AfterItems {T : Type 0} (before out : List T) (rest all : ChunkAnswer T) : Type 0 where
  pub items : before ++ all.trace.items ≡ out ++ rest.trace.items
  pub ending : all.trace.ending ≡ rest.trace.ending
  pub dropped : all.dropped ≡ rest.dropped
  pub stop : all.stop ≡ rest.stop
