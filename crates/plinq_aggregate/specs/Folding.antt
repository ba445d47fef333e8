-- Aggregation: an accumulator taken through items, and what is told of it at the end.
use Rattle.std.specs.Prelude.{◌≡◌, List, ◌++◌}
use Rattle.std.specs.List.{fold}

-- what an aggregator computes: where an accumulator begins, how it takes one item in, how two of them become one, and what is told of it
pub record Folding (T A O : Type 0) : Type 0 where
  pub seed : A
  pub update : A → T → A
  pub combine : A → A → A
  pub tell : A → O

-- the accumulator of these items: from the seed through all of them, first to last
abbrev pub fold_of : {T A O : Type 0} → Folding T A O → List T → A
fold_of f xs = fold f.update f.seed xs

-- what is told of these items: the aggregate on one thread
abbrev pub aggregate_value : {T A O : Type 0} → Folding T A O → List T → O
aggregate_value f xs = f.tell (fold_of f xs)

-- accumulators of parts, combined in order, are the accumulator of the whole, and the seed adds nothing to one
pub record IsFolding {T A O : Type 0} (f : Folding T A O) : Type 0 where
  pub joins : (xs ys : List T) → f.combine (fold_of f xs) (fold_of f ys) ≡ fold_of f (xs ++ ys)
  pub neutral : (xs : List T) → f.combine f.seed (fold_of f xs) ≡ fold_of f xs
