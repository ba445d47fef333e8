-- Cuts: keys above which a worker needn't look, since the run has ended there.
use Rattle.std.specs.Prelude.{◌≡◌, refl, ℕ, ◌+◌, ◌^◌, pos, List, [], ◌∷◌, Bool, true, false, ◌||◌, ◌==◌, if◌then◌else◌, is_some}
use Rattle.plinq_lambda.specs.Meaning.{Meaning}
use Rattle.plinq_keyed.specs.Keys.{is_among}
use Rattle.plinq_ops.specs.declared.op.Op.{Op}
use Rattle.plinq_ops.specs.declared.op.Op.TheVariants.{Select, Take}
use Rattle.plinq_ops.specs.Operator.{example}
use Rattle.plinq_ops.specs.Fragment.{fragment_of}

-- the keys whose fragments end the run, of items whose keys count up from here
abbrev pub stop_keys : {L T : Type 0} → (L → Meaning T) → List (Op L) → ℕ → List T → List ℕ
stop_keys meaning worker key [] = []
stop_keys meaning worker key (x ∷ xs) =
    if is_some (fragment_of meaning worker key x).ending then key ∷ stop_keys meaning worker (key + 1) xs else stop_keys meaning worker (key + 1) xs

-- the most items that a source may have; all keys are below it
abbrev pub most_items : ℕ
most_items = 2 ^ 40

-- no key is above it
abbrev pub no_cut : ℕ
no_cut = 18446744073709551615

-- a cut is no cut at all, or a key whose fragment ends the run
abbrev pub is_cut : {L T : Type 0} → (L → Meaning T) → List (Op L) → List T → ℕ → Bool
is_cut meaning worker items cut = cut == no_cut || is_among (stop_keys meaning worker 0 items) cut

-- the last item that a Take takes ends the run, and so would each after it
ended_by_a_take : stop_keys {L = ℕ} (λ _. example) (Take (pos 2) ∷ []) 0 (5 ∷ 6 ∷ 7 ∷ []) ≡ 1 ∷ 2 ∷ []
ended_by_a_take = refl

-- a fault at key 8 ends the run of the keys 7, 8, 9
ended_by_a_fault : stop_keys {L = ℕ} (λ _. example) (Select 0 ∷ []) 7 (5 ∷ 0 ∷ 2 ∷ []) ≡ 8 ∷ []
ended_by_a_fault = refl

cut_at_an_ender : is_cut {L = ℕ} (λ _. example) (Take (pos 2) ∷ []) (5 ∷ 6 ∷ 7 ∷ []) 1 ≡ true
cut_at_an_ender = refl

cut_before_the_enders : is_cut {L = ℕ} (λ _. example) (Take (pos 2) ∷ []) (5 ∷ 6 ∷ 7 ∷ []) 0 ≡ false
cut_before_the_enders = refl

no_cut_is_a_cut : is_cut {L = ℕ} (λ _. example) (Take (pos 2) ∷ []) (5 ∷ 6 ∷ 7 ∷ []) no_cut ≡ true
no_cut_is_a_cut = refl
