-- Batches: how the items of an answer are handed over.
use Rattle.std.specs.Prelude.{◌≡◌, refl, ℕ, Bool, false, ◌+◌, List, [], ◌∷◌, ◌++◌, length, ◌==◌, if◌then◌else◌, Option, Some, None}
use Rattle.plinq_source.specs.declared.ending.Ending.{Ending}
use Rattle.plinq_source.specs.declared.ending.Ending.TheVariants.{End, Refused, Fault}
use Rattle.std.specs.List.{range_with_len}
use Rattle.plinq_source.specs.Trace.{Trace, open_trace, ended_trace}
use Rattle.plinq_ops.specs.declared.merge_option.MergeOption.{MergeOption}
use Rattle.plinq_ops.specs.declared.merge_option.MergeOption.TheVariants.{Default, NotBuffered, AutoBuffered, FullyBuffered}

-- after how many items a batch is full; a fully buffered one never is
abbrev pub batch_size : MergeOption → Option ℕ
batch_size Default = Some 16
batch_size NotBuffered = Some 1
batch_size AutoBuffered = Some 16
batch_size FullyBuffered = None

-- whether a batch of so many items is full
abbrev pub is_full : Option ℕ → ℕ → Bool
is_full None n = false
is_full (Some size) n = n == size

-- the full batches of the items, the first of them begun with those that are held back
abbrev pub full_batches : {T : Type 0} → Option ℕ → List T → List T → List (List T)
full_batches size held [] = []
full_batches size held (x ∷ xs) =
    if is_full size (length held + 1) then (held ++ x ∷ []) ∷ full_batches size [] xs else full_batches size (held ++ x ∷ []) xs

-- the items after the last full batch, which are held back
abbrev pub held_back : {T : Type 0} → Option ℕ → List T → List T → List T
held_back size held [] = held
held_back size held (x ∷ xs) =
    if is_full size (length held + 1) then held_back size [] xs else held_back size (held ++ x ∷ []) xs

-- what is still held back goes out as a batch when the answer ends; a fully buffered one only at End
abbrev pub last_batch : {T : Type 0} → Option ℕ → List T → Option Ending → List (List T)
last_batch size [] ending = []
last_batch size (x ∷ xs) None = []
last_batch size (x ∷ xs) (Some End) = (x ∷ xs) ∷ []
last_batch None (x ∷ xs) (Some (Refused code)) = []
last_batch None (x ∷ xs) (Some (Fault code)) = []
last_batch (Some size) (x ∷ xs) (Some (Refused code)) = (x ∷ xs) ∷ []
last_batch (Some size) (x ∷ xs) (Some (Fault code)) = (x ∷ xs) ∷ []

-- the batches of a trace, the first of them begun with the items that are held back
abbrev pub batches_from : {T : Type 0} → Option ℕ → List T → Trace T → List (List T)
batches_from size held t = full_batches size held t.items ++ last_batch size (held_back size held t.items) t.ending

-- the batches of a trace: one an item, runs of 16, or all at once where the ending is End
abbrev pub batches : {T : Type 0} → MergeOption → Trace T → List (List T)
batches option t = batches_from (batch_size option) [] t

-- seventeen items in buffers of sixteen
seventeen : length (batches AutoBuffered (ended_trace (range_with_len 1 17) End)) ≡ 2
seventeen = refl

last_of_seventeen : batches AutoBuffered (ended_trace (range_with_len 1 17) End) ≡ range_with_len 1 16 ∷ (17 ∷ []) ∷ []
last_of_seventeen = refl

-- the default is the same
seventeen_by_default : batches Default (ended_trace (range_with_len 1 17) End) ≡ range_with_len 1 16 ∷ (17 ∷ []) ∷ []
seventeen_by_default = refl

-- a trace that is still open gives its full batches alone
seventeen_open : batches AutoBuffered (open_trace (range_with_len 1 17)) ≡ range_with_len 1 16 ∷ []
seventeen_open = refl

one_by_one : batches {T = ℕ} NotBuffered (ended_trace (4 ∷ 2 ∷ []) (Refused 7)) ≡ (4 ∷ []) ∷ (2 ∷ []) ∷ []
one_by_one = refl

-- what was held back goes out at a fault as well
held_back_at_fault : batches {T = ℕ} AutoBuffered (ended_trace (4 ∷ 2 ∷ []) (Fault 1)) ≡ (4 ∷ 2 ∷ []) ∷ []
held_back_at_fault = refl

held_back_at_refusal : batches {T = ℕ} AutoBuffered (ended_trace (4 ∷ 2 ∷ []) (Refused 7)) ≡ (4 ∷ 2 ∷ []) ∷ []
held_back_at_refusal = refl

-- a fully buffered answer that doesn't end well gives nothing
refused_full : batches {T = ℕ} FullyBuffered (ended_trace (4 ∷ 2 ∷ []) (Refused 7)) ≡ []
refused_full = refl

fault_full : batches {T = ℕ} FullyBuffered (ended_trace (4 ∷ 2 ∷ []) (Fault 1)) ≡ []
fault_full = refl

ended_full : batches {T = ℕ} FullyBuffered (ended_trace (4 ∷ 2 ∷ []) End) ≡ (4 ∷ 2 ∷ []) ∷ []
ended_full = refl

nothing_full : batches {T = ℕ} FullyBuffered (ended_trace [] End) ≡ []
nothing_full = refl
