-- A block, one item after another.
use Rattle.std.specs.Prelude.{◌≡◌, ℕ, List, ◌++◌, Bool, Result}
use Rattle.plinq_lambda.specs.Block.{BlockResult, mapped_block, filtered_block, passing_block}

-- what comes of the rest, after what is done
abbrev pub after : {T : Type 0} → List T → BlockResult T → BlockResult T
after done rest = record { items = done ++ rest.items; fault = rest.fault }

-- all is these items, and then what comes of the rest
pub record IsMappedSoFar {T : Type 0} (map : T → Result T ℕ) (xs done rest : List T) : Type 0 where
  pub same : mapped_block map xs ≡ after done (mapped_block map rest)

pub record IsFilteredSoFar {T : Type 0} (test : T → Result Bool ℕ) (xs done rest : List T) : Type 0 where
  pub same : filtered_block test xs ≡ after done (filtered_block test rest)

pub record IsPassingSoFar {T : Type 0} (test : T → Result Bool ℕ) (xs done rest : List T) : Type 0 where
  pub same : passing_block test xs ≡ after done (passing_block test rest)
