-- Rows of results: what workers gave for chunks that stand one after another, each with a cut of its own.
use Rattle.std.specs.Prelude.{◌≡◌, ℕ, ◌+◌, ◌≤◌, List, [], ◌∷◌, length, map, take, drop, true, ⊤, refl}
use Rattle.plinq_source.specs.declared.ending.Ending.TheVariants.{End, Fault}
use Rattle.plinq_source.specs.Trace.{Trace, open_trace, ended_trace, followed_by}
use Rattle.plinq_lambda.specs.Meaning.{Meaning}
use Rattle.plinq_keyed.specs.declared.chunk.Chunk.{Chunk}
use Rattle.plinq_keyed.specs.declared.record.Record.{Record}
use Rattle.plinq_keyed.specs.History.{IsChunkOf}
use Rattle.plinq_ops.specs.declared.op.Op.{Op}
use Rattle.plinq_ops.specs.declared.results.ChunkResult.{ChunkResult}
use Rattle.plinq_ops.specs.Chunk.{IsChunkResult, result_trace}
use Rattle.plinq_ops.specs.Cut.{is_cut}

-- a result of a chunk of a source
pub record IsOffer {L T : Type 0} (meaning : L → Meaning T) (worker : List (Op L)) (t : Trace T) (r : ChunkResult T) : Type 0 where
  pub cut : ℕ
  pub chunk : Chunk T
  pub is_cut : is_cut meaning worker t.items cut ≡ true
  pub within : chunk.first + length chunk.items.items ≤ length t.items
  pub items : chunk.items.items ≡ take (length chunk.items.items) (drop chunk.first t.items)
  pub made : IsChunkResult meaning worker cut chunk r

abbrev pub AreOffers : {L T : Type 0} → (L → Meaning T) → List (Op L) → Trace T → List (ChunkResult T) → Type 0
AreOffers meaning worker t [] = ⊤
AreOffers meaning worker t (r ∷ rs) = IsOffer meaning worker t r × AreOffers meaning worker t rs

-- results one after another, from a key up to another
abbrev pub IsRow : {T : Type 0} → ℕ → List (ChunkResult T) → ℕ → Type 0
IsRow from [] to = from ≡ to
IsRow from (r ∷ rs) to = (r.first ≡ from) × IsRow (from + r.count) rs to

-- traces one after another, up to and with the first that has an ending
abbrev pub all_followed : {T : Type 0} → List (Trace T) → Trace T
all_followed [] = open_trace []
all_followed (t ∷ ts) = followed_by t (all_followed ts)

nothing_after_a_fault : all_followed {T = ℕ} (open_trace (4 ∷ []) ∷ ended_trace (5 ∷ []) (Fault 1) ∷ ended_trace (6 ∷ []) End ∷ [])
    ≡ ended_trace (4 ∷ 5 ∷ []) (Fault 1)
nothing_after_a_fault = refl

-- what results give one after another
abbrev pub row_trace : {T : Type 0} → List (ChunkResult T) → Trace T
row_trace rs = all_followed (map result_trace rs)

-- the result of a record's chunk
pub record IsResultOf {L T : Type 0} (meaning : L → Meaning T) (worker : List (Op L)) (t : Trace T) (asked : Record) (r : ChunkResult T) : Type 0 where
  pub cut : ℕ
  pub chunk : Chunk T
  pub is_cut : is_cut meaning worker t.items cut ≡ true
  pub of : IsChunkOf t asked chunk
  pub made : IsChunkResult meaning worker cut chunk r

-- the results of a history's chunks, record by record
abbrev pub AreResultsOf : {L T : Type 0} → (L → Meaning T) → List (Op L) → Trace T → List Record → List (ChunkResult T) → Type 0
AreResultsOf meaning worker t [] [] = ⊤
AreResultsOf meaning worker t [] (r ∷ rs) = ⊥
AreResultsOf meaning worker t (asked ∷ h) [] = ⊥
AreResultsOf meaning worker t (asked ∷ h) (r ∷ rs) = IsResultOf meaning worker t asked r × AreResultsOf meaning worker t h rs
