-- A block at a closure, one item after another.
use Rattle.std.specs.Prelude.{◌≡◌, List, ◌++◌}
use Rattle.plinq_lambda.specs.Block.{BlockResult}
use Rattle.plinq_closures.specs.BlockSteps.{IsAnsweredBy}

-- what comes of the rest, after what is done
abbrev pub after : {T : Type 0} → List T → BlockResult T → BlockResult T
after done rest = record { items = done ++ rest.items; fault = rest.fault }

-- all is these items, and then what comes of the rest
pub record IsSoFar {T R : Type 0} (turn : (T → R) → List T → BlockResult T) (Gives : T → R → Type 0) (xs done rest : List T) : Type 0 where
  pub same : (f : T → R) → IsAnsweredBy Gives f → turn f xs ≡ after done (turn f rest)
