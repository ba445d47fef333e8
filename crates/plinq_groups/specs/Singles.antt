-- The only item.
use Rattle.std.specs.Prelude.{◌≡◌, refl, List, [], ◌∷◌}
use Rattle.std.specs.List.{fold}
use Rattle.plinq_aggregate.specs.Folding.{Folding, fold_of, IsFolding}
use Rattle.plinq_groups.specs.declared.only.Only.{Only}
use Rattle.plinq_groups.specs.declared.only.Only.TheVariants.{NoElements, One, MoreThanOne}
use Rattle.plinq_groups.specs.inner.Acting.{acting-lawful}

-- the only item, or whether there is none or more than one (.NET's Single)
abbrev pub only_of : {T : Type 0} → List T → Only T
only_of [] = NoElements
only_of (x ∷ []) = One x
only_of (x ∷ y ∷ zs) = MoreThanOne

-- that of some items and then of others
abbrev pub both_singles : {T : Type 0} → Only T → Only T → Only T
both_singles NoElements b = b
both_singles (One x) NoElements = One x
both_singles (One x) (One y) = MoreThanOne
both_singles (One x) MoreThanOne = MoreThanOne
both_singles MoreThanOne b = MoreThanOne

abbrev pub being_single : {T : Type 0} → Folding T (Only T) (Only T)
being_single = record { seed = NoElements; update = λ a x. both_singles a (One x); combine = both_singles; tell = λ a. a }

single-after : {T : Type 0} (a b : Only T) (x : T) → both_singles a (both_singles b (One x)) ≡ both_singles (both_singles a b) (One x)
single-after NoElements b x = refl
single-after (One y) NoElements x = refl
single-after (One y) (One z) x = refl
single-after (One y) MoreThanOne x = refl
single-after MoreThanOne b x = refl

single-none : {T : Type 0} (a : Only T) → both_singles a NoElements ≡ a
single-none NoElements = refl
single-none (One x) = refl
single-none MoreThanOne = refl

pub being_single-lawful : {T : Type 0} → IsFolding (being_single {T = T})
being_single-lawful = acting-lawful being_single single-after single-none

several-from : {T : Type 0} (xs : List T) → fold (being_single {T = T}).update MoreThanOne xs ≡ MoreThanOne
several-from [] = refl
several-from (x ∷ xs) = several-from xs

pub fold_of-single : {T : Type 0} (xs : List T) → fold_of being_single xs ≡ only_of xs
fold_of-single [] = refl
fold_of-single (x ∷ []) = refl
fold_of-single (x ∷ y ∷ zs) = several-from zs
