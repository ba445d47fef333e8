-- The last item.
use Rattle.std.specs.Prelude.{◌≡◌, refl, List, [], ◌∷◌, Option, Some, None}
use Rattle.std.specs.List.{fold}
use Rattle.plinq_aggregate.specs.Folding.{Folding, fold_of, IsFolding}
use Rattle.plinq_aggregate.specs.Numbers.{picking}
use Rattle.plinq_aggregate.specs.Lawful.{picking-lawful}

-- the last of these, or the one before them if there are none
abbrev pub last_after : {T : Type 0} → T → List T → T
last_after x [] = x
last_after x (y ∷ ys) = last_after y ys

-- the last item, if there is one (.NET's LastOrDefault)
abbrev pub last_of : {T : Type 0} → List T → Option T
last_of [] = None
last_of (x ∷ xs) = Some (last_after x xs)

abbrev pub picking_last : {T : Type 0} → Folding T (Option T) (Option T)
picking_last = picking (λ a b. b)

pub picking_last-lawful : {T : Type 0} → IsFolding (picking_last {T = T})
picking_last-lawful = picking-lawful (λ a b. b) (λ a b c. refl)

last-from : {T : Type 0} (x : T) (xs : List T) → fold (picking_last {T = T}).update (Some x) xs ≡ Some (last_after x xs)
last-from x [] = refl
last-from x (y ∷ ys) = last-from y ys

pub fold_of-last : {T : Type 0} (xs : List T) → fold_of picking_last xs ≡ last_of xs
fold_of-last [] = refl
fold_of-last (x ∷ xs) = last-from x xs
