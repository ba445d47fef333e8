-- Offers of one source: results of its chunks, in any order.
use Rattle.std.specs.Prelude.{◌≡◌, ℕ, ◌<◌, List, [], ◌∷◌, ◌++◌, length, ⊤, None, true}
use Rattle.std.specs.Option.{IfSome, IsSome}
use Rattle.plinq_source.specs.Trace.{Trace}
use Rattle.plinq_ops.specs.declared.results.ChunkResult.{ChunkResult}
use Rattle.plinq_ops.specs.Tails.{end_of_result, told_at, EndsAt}
use Rattle.plinq_merge.specs.Shown.{all_told}
use Rattle.plinq_merge.specs.OfferedKeys.{is_offered, AreNew}

-- what a tail says of the source's end is so
abbrev pub IsTrueTail : {T : Type 0} → Trace T → ChunkResult T → Type 0
IsTrueTail t r = IfSome (told_at (end_of_result r) r.tail) (EndsAt t)

abbrev pub AreTrueTails : {T : Type 0} → Trace T → List (ChunkResult T) → Type 0
AreTrueTails t [] = ⊤
AreTrueTails t (r ∷ rs) = IsTrueTail t r × AreTrueTails t rs

-- no key is in two of them
abbrev pub AreApart : {T : Type 0} → List (ChunkResult T) → Type 0
AreApart [] = ⊤
AreApart (r ∷ rs) = AreNew rs r × AreApart rs

-- all of a source was offered: each of its keys once, and its end
pub record AreWhole {T : Type 0} (t : Trace T) (offers : List (ChunkResult T)) : Type 0 where
  pub apart : AreApart offers
  pub keys : (key : ℕ) → key < length t.items → is_offered offers key ≡ true
  pub end : IsSome (all_told None offers)

-- the first of these batches
abbrev pub AreFirstOf : {B : Type 0} → List B → List B → Type 0
AreFirstOf {B} first all = (rest : List B) × (all ≡ first ++ rest)
