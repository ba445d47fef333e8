-- Folds of results: accumulators in the place of items.
use Rattle.std.specs.Prelude.{◌≡◌, refl, ℕ, pos, List, [], ◌∷◌, length, Option, ⊤}
use Rattle.std.specs.List.{fold}
use Rattle.plinq_aggregate.specs.Folding.{Folding, fold_of}
use Rattle.plinq_aggregate.specs.Numbers.{counting}
use Rattle.plinq_keyed.specs.declared.chunk.Chunk.{Chunk}
use Rattle.plinq_ops.specs.declared.frag_end.FragEnd.{FragEnd}
use Rattle.plinq_ops.specs.declared.results.ChunkResult.{ChunkResult}

-- what is sent of a chunk: an accumulator in the place of its result's items, and how that stopped
pub record IsFoldOfChunk {T A : Type 0} (chunk : Chunk T) (acc : A) (how : FragEnd) (at : Option ℕ) (c : ChunkResult A) : Type 0 where
  pub first : c.first ≡ chunk.first
  pub count : c.count ≡ length chunk.items.items
  pub items : c.items.items ≡ acc ∷ []
  pub ending : c.ending ≡ how
  pub stop : c.stop ≡ at
  pub tail : c.tail ≡ chunk.tail

module _ {T A O : Type 0} (f : Folding T A O) where
  -- a result with the fold of its items in their place
  pub record IsFoldOf (r : ChunkResult T) (c : ChunkResult A) : Type 0 where
    pub first : c.first ≡ r.first
    pub count : c.count ≡ r.count
    pub items : c.items.items ≡ fold_of f r.items.items ∷ []
    pub ending : c.ending ≡ r.ending
    pub stop : c.stop ≡ r.stop
    pub tail : c.tail ≡ r.tail

  abbrev pub AreFoldsOf : List (ChunkResult T) → List (ChunkResult A) → Type 0
  AreFoldsOf [] [] = ⊤
  AreFoldsOf [] (c ∷ cs) = ⊥
  AreFoldsOf (r ∷ rs) [] = ⊥
  AreFoldsOf (r ∷ rs) (c ∷ cs) = IsFoldOf r c × AreFoldsOf rs cs

-- ---- worked rows

-- two parts of three items
three_are_counted : fold counting.combine counting.seed (fold_of counting (pos 7 ∷ pos 8 ∷ []) ∷ fold_of counting (pos 9 ∷ []) ∷ []) ≡ 3
three_are_counted = refl

of_no_parts_the_seed : fold counting.combine counting.seed [] ≡ 0
of_no_parts_the_seed = refl
