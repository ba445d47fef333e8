-- The batches of a trace that grows.
use Rattle.std.specs.Prelude.{◌≡◌, ℕ, ◌+◌, ◌<◌, ◌≤◌, ◌==◌, Bool, List, [], ◌∷◌, ◌++◌, length, true, false, cond, Option, Some, None, IfSome, refl}
use Rattle.std.proofs.Common.{◌∙◌, ap, sym, arith, append-nil, append_assoc, length-append}
use Rattle.std.proofs.lemmas.Bool.Decides.{nat_tests}
use Rattle.plinq_source.specs.Trace.{Trace, open_trace, followed_by}
use Rattle.plinq_ops.specs.declared.merge_option.MergeOption.{MergeOption}
use Rattle.plinq_ops.specs.declared.merge_option.MergeOption.TheVariants.{Default, NotBuffered, AutoBuffered, FullyBuffered}
use Rattle.plinq_ops.specs.Batches.{batch_size, is_full, full_batches, held_back, last_batch, batches_from}

-- the full batches of items after others
pub full_batches-append : {T : Type 0} (size : Option ℕ) (held xs ys : List T)
    → full_batches size held (xs ++ ys) ≡ full_batches size held xs ++ full_batches size (held_back size held xs) ys
full_batches-append size held [] ys = refl
full_batches-append size held (x ∷ xs) ys =
    elim (is_full size (length held + 1)) as (λ v. cond v ((held ++ x ∷ []) ∷ full_batches size [] (xs ++ ys)) (full_batches size (held ++ x ∷ []) (xs ++ ys))
    ≡ cond v ((held ++ x ∷ []) ∷ full_batches size [] xs) (full_batches size (held ++ x ∷ []) xs)
    ++ full_batches size (cond v (held_back size [] xs) (held_back size (held ++ x ∷ []) xs)) ys) [
      | true ↦ ap (λ bs. (held ++ x ∷ []) ∷ bs) (full_batches-append size [] xs ys)
      | false ↦ full_batches-append size (held ++ x ∷ []) xs ys
    ]

-- what is held back after others
pub held_back-append : {T : Type 0} (size : Option ℕ) (held xs ys : List T) → held_back size held (xs ++ ys) ≡ held_back size (held_back size held xs) ys
held_back-append size held [] ys = refl
held_back-append size held (x ∷ xs) ys =
    elim (is_full size (length held + 1)) as (λ v. cond v (held_back size [] (xs ++ ys)) (held_back size (held ++ x ∷ []) (xs ++ ys))
    ≡ held_back size (cond v (held_back size [] xs) (held_back size (held ++ x ∷ []) xs)) ys) [
      | true ↦ held_back-append size [] xs ys
      | false ↦ held_back-append size (held ++ x ∷ []) xs ys
    ]

-- the batches of a trace after open items
pub batches_from-followed_by : {T : Type 0} (size : Option ℕ) (held xs : List T) (t : Trace T)
    → batches_from size held (followed_by (open_trace xs) t) ≡ full_batches size held xs ++ batches_from size (held_back size held xs) t
batches_from-followed_by size held xs t =
    let full = full_batches-append size held xs t.items in
    let kept = held_back-append size held xs t.items in
    ap (λ bs. bs ++ last_batch size (held_back size held (xs ++ t.items)) t.ending) full
    ∙ ap (λ rest. (full_batches size held xs ++ full_batches size (held_back size held xs) t.items) ++ last_batch size rest t.ending) kept
    ∙ append_assoc (full_batches size held xs) (full_batches size (held_back size held xs) t.items)
    (last_batch size (held_back size (held_back size held xs) t.items) t.ending)

last_batch-open : {T : Type 0} (size : Option ℕ) (held : List T) → last_batch size held None ≡ []
last_batch-open size [] = refl
last_batch-open size (x ∷ xs) = refl

-- a trace that is still open gives its full batches alone
pub batches_from-open : {T : Type 0} (size : Option ℕ) (held xs : List T) → batches_from size held (open_trace xs) ≡ full_batches size held xs
batches_from-open size held xs =
    ap (λ bs. full_batches size held xs ++ bs) (last_batch-open size (held_back size held xs)) ∙ append-nil (full_batches size held xs)

-- the batches of a trace that grows begin with those so far; the rest's, begun with what is held back, come after them
pub batches_from-grown : {T : Type 0} (size : Option ℕ) (held xs : List T) (t : Trace T)
    → batches_from size held (followed_by (open_trace xs) t) ≡ batches_from size held (open_trace xs) ++ batches_from size (held_back size held xs) t
batches_from-grown size held xs t =
    batches_from-followed_by size held xs t
    ∙ ap (λ bs. bs ++ batches_from size (held_back size held xs) t) (sym (batches_from-open size held xs))

-- where the batch is full it is gone, and else there is still room in it
either-fewer : {T : Type 0} (full : Bool) (n size : ℕ) (emptied kept : List T) → (n == size) ≡ full → n ≤ size → length emptied < size
    → (n < size → length kept < size) → length (cond full emptied kept) < size
either-fewer true n size emptied kept is within gone more = gone
either-fewer false n size emptied kept is within gone more = more (grind (arith, nat_tests))

-- fewer items are held back than fill a batch
pub held_back-fewer : {T : Type 0} (size : ℕ) (held xs : List T) → length held < size → length (held_back (Some size) held xs) < size
held_back-fewer size held [] fewer = fewer
held_back-fewer size held (x ∷ xs) fewer =
    either-fewer (length held + 1 == size) (length held + 1) size (held_back (Some size) [] xs) (held_back (Some size) (held ++ x ∷ []) xs) refl (omega arith)
    (held_back-fewer size [] xs (omega arith))
    (λ room. held_back-fewer size (held ++ x ∷ []) xs (omega (arith, length-append held (x ∷ []))))

pub held_back-fewer_than_batch : {T : Type 0} (option : MergeOption) (xs : List T)
    → IfSome (batch_size option) (λ size. length (held_back (batch_size option) [] xs) < size)
held_back-fewer_than_batch Default xs = held_back-fewer 16 [] xs (omega arith)
held_back-fewer_than_batch NotBuffered xs = held_back-fewer 1 [] xs (omega arith)
held_back-fewer_than_batch AutoBuffered xs = held_back-fewer 16 [] xs (omega arith)
held_back-fewer_than_batch FullyBuffered xs = tt
