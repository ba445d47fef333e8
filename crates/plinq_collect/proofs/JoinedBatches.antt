-- The batches of an answer that ends well, one after another, are its items.
use Rattle.std.specs.Prelude.{◌≡◌, ℕ, ◌+◌, List, [], ◌∷◌, ◌++◌, length, Option, Some, refl, cond}
use Rattle.std.proofs.Common.{sym, ◌∙◌, ap, append-nil, append_assoc, true, false}
use Rattle.plinq_source.specs.declared.ending.Ending.TheVariants.{End}
use Rattle.plinq_source.specs.Trace.{Trace}
use Rattle.plinq_ops.specs.declared.merge_option.MergeOption.{MergeOption}
use Rattle.plinq_ops.specs.Batches.{batch_size, is_full, full_batches, held_back, last_batch, batches}
use Rattle.plinq_collect.specs.Telling.{items_of}

pub items_of-append : {T : Type 0} (bs cs : List (List T)) → items_of (bs ++ cs) ≡ items_of bs ++ items_of cs
items_of-append [] cs = refl
items_of-append (b ∷ bs) cs = ap (λ ys. b ++ ys) (items_of-append bs cs) ∙ sym (append_assoc b (items_of bs) (items_of cs))

-- the full batches, and then what is held back
pub items_of-full_batches : {T : Type 0} (size : Option ℕ) (held xs : List T) → items_of (full_batches size held xs) ++ held_back size held xs ≡ held ++ xs
items_of-full_batches size held [] = sym (append-nil held)
items_of-full_batches size held (x ∷ xs) =
    elim (is_full size (length held + 1)) as (λ v. items_of (cond v ((held ++ x ∷ []) ∷ full_batches size [] xs) (full_batches size (held ++ x ∷ []) xs))
    ++ cond v (held_back size [] xs) (held_back size (held ++ x ∷ []) xs) ≡ held ++ x ∷ xs) [
      | true ↦ append_assoc (held ++ x ∷ []) (items_of (full_batches size [] xs)) (held_back size [] xs)
          ∙ (ap (λ ys. (held ++ x ∷ []) ++ ys) (items_of-full_batches size [] xs) ∙ append_assoc held (x ∷ []) xs)
      | false ↦ items_of-full_batches size (held ++ x ∷ []) xs ∙ append_assoc held (x ∷ []) xs
    ]

items_of-last_batch : {T : Type 0} (size : Option ℕ) (held : List T) → items_of (last_batch size held (Some End)) ≡ held
items_of-last_batch size [] = refl
items_of-last_batch size (x ∷ xs) = append-nil (x ∷ xs)

-- of an answer that ends well each item is in a batch, whatever their size
pub items_of-batches : {T : Type 0} (option : MergeOption) (u : Trace T) → u.ending ≡ Some End → items_of (batches option u) ≡ u.items
items_of-batches option u well =
    let size = batch_size option in
    let full = full_batches size [] u.items in
    let held = held_back size [] u.items in
    ap (λ e. items_of (full ++ last_batch size held e)) well
    ∙ (items_of-append full (last_batch size held (Some End))
    ∙ (ap (λ ys. items_of full ++ ys) (items_of-last_batch size held) ∙ items_of-full_batches size [] u.items))
