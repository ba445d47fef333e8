-- All items in their order, as they are or each made into something else.
use Rattle.std.specs.Prelude.{◌≡◌, List, [], ◌∷◌, ◌++◌}
use Rattle.std.specs.List.{fold}
use Rattle.std.proofs.Common.{sym, ◌∙◌, append_assoc, append-nil}
use Rattle.plinq_aggregate.specs.Folding.{Folding, fold_of, IsFolding}
use Rattle.plinq_groups.specs.inner.Acting.{acting-lawful}

-- items one after another
abbrev pub collecting : {T : Type 0} → Folding T (List T) (List T)
collecting = record { seed = []; update = λ ys x. ys ++ x ∷ []; combine = λ ys zs. ys ++ zs; tell = λ ys. ys }

pub collecting-lawful : {T : Type 0} → IsFolding (collecting {T = T})
collecting-lawful = acting-lawful collecting (λ a b x. sym (append_assoc a b (x ∷ []))) append-nil

pub collects-from : {T : Type 0} (ys xs : List T) → fold (collecting {T = T}).update ys xs ≡ ys ++ xs
collects-from ys [] = sym (append-nil ys)
collects-from ys (x ∷ xs) = collects-from (ys ++ x ∷ []) xs ∙ append_assoc ys (x ∷ []) xs

-- what was collected are the items
pub fold_of-collecting : {T : Type 0} (xs : List T) → fold_of collecting xs ≡ xs
fold_of-collecting xs = collects-from [] xs
