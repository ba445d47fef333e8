-- The pieces of a block's items, joined one item after another.
use Rattle.std.specs.Prelude.{◌≡◌, ℕ, List, [], ◌∷◌, Bool, true, false, None, Result, Ok, Err, refl}
use Rattle.std.proofs.Common.{◌∙◌, ap}
use Rattle.plinq_source.specs.Trace.{Trace, followed_by}
use Rattle.plinq_lambda.specs.Meaning.{Meaning}
use Rattle.plinq_lambda.specs.Block.{BlockResult, mapped_from, mapped_block, filtered_from, filtered_block}
use Rattle.plinq_ops.specs.Stage.{joined_pieces}
use Rattle.plinq_ops.specs.Operator.{selected_piece, filtered_piece}
use Rattle.plinq_ops.specs.inner.Passing.{ending_of}

abbrev pub select_piece : {L T : Type 0} → (L → Meaning T) → L → T → Trace T
select_piece meaning f x = selected_piece ((meaning f).map x)

abbrev pub filter_piece : {L T : Type 0} → (L → Meaning T) → L → T → Trace T
filter_piece meaning f x = filtered_piece ((meaning f).test x) x

-- ---- a block at a lambda

-- the result of a block as a trace
abbrev pub trace_of_block : {T : Type 0} → BlockResult T → Trace T
trace_of_block b = record { items = b.items; ending = ending_of b.fault }

mapped-first : {T : Type 0} (r : Result T ℕ) (rest : BlockResult T) → trace_of_block (mapped_from r rest) ≡ followed_by (selected_piece r) (trace_of_block rest)
mapped-first (Ok y) rest = refl
mapped-first (Err code) rest = refl

-- mapped items are the pieces of a Select
pub joined_pieces-mapped : {L T : Type 0} (meaning : L → Meaning T) (f : L) (xs : List T)
    → trace_of_block (mapped_block (meaning f).map xs) ≡ joined_pieces (select_piece meaning f) xs None
joined_pieces-mapped meaning f [] = refl
joined_pieces-mapped meaning f (x ∷ xs) =
    mapped-first ((meaning f).map x) (mapped_block (meaning f).map xs) ∙ ap (followed_by (select_piece meaning f x)) (joined_pieces-mapped meaning f xs)

filtered_piece-first : {T : Type 0} (r : Result Bool ℕ) (x : T) (rest : BlockResult T)
    → trace_of_block (filtered_from r x rest) ≡ followed_by (filtered_piece r x) (trace_of_block rest)
filtered_piece-first (Ok true) x rest = refl
filtered_piece-first (Ok false) x rest = refl
filtered_piece-first (Err code) x rest = refl

-- those that pass are the pieces of a Where
pub joined_pieces-filtered : {L T : Type 0} (meaning : L → Meaning T) (f : L) (xs : List T)
    → trace_of_block (filtered_block (meaning f).test xs) ≡ joined_pieces (filter_piece meaning f) xs None
joined_pieces-filtered meaning f [] = refl
joined_pieces-filtered meaning f (x ∷ xs) =
    filtered_piece-first ((meaning f).test x) x (filtered_block (meaning f).test xs)
    ∙ ap (followed_by (filter_piece meaning f x)) (joined_pieces-filtered meaning f xs)
