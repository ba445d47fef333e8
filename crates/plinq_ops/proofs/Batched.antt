-- The batches of a fully buffered answer.
use Rattle.std.proofs.Common.{◌≡◌, List, [], ◌∷◌, ◌++◌, None, refl, sym, ◌∙◌, append_assoc, append-nil}
use Rattle.plinq_ops.specs.Batches.{full_batches, held_back}

-- nothing goes out before the end
pub full_batches-none : {T : Type 0} (held xs : List T) → full_batches None held xs ≡ []
full_batches-none held [] = refl
full_batches-none held (x ∷ xs) = full_batches-none (held ++ x ∷ []) xs

pub held_back-none : {T : Type 0} (held xs : List T) → held_back None held xs ≡ held ++ xs
held_back-none held [] = sym (append-nil held)
held_back-none held (x ∷ xs) = held_back-none (held ++ x ∷ []) xs ∙ append_assoc held (x ∷ []) xs
