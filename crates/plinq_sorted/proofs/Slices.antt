-- A list whose items were lent as a slice.
use Rattle.std.specs.Prelude.{◌≡◌, ℕ, List, ◌++◌, take, drop, length}
use Rattle.std.proofs.Common.{arith, ◌∙◌, ap, append-nil}
use Rattle.std.proofs.lemmas.List.{take_all, drop_all}

-- all of it was lent, so it has what stands in the slice now
pub lent-whole : {X : Type 0} (n : ℕ) (s xs : List X) → n ≡ length xs → length s ≡ length xs → take n (s ++ drop (length s) xs) ≡ s
lent-whole n s xs len same =
    ap (λ l. take n (s ++ l)) (drop_all (length s) xs (omega (arith, same))) ∙ ap (take n) (append-nil s) ∙ take_all n s (omega (arith, len, same))
