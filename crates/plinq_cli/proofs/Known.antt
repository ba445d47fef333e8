-- What reads do to the bytes that a reader reports.
use Rattle.std.proofs.Common.{◌≡◌, ℕ, List, [], ◌++◌, Option, Some, None, refl, ap, sym, subst, ◌∙◌, append_assoc, append-nil}
use Rattle.std.specs.Prelude.{IfSome}
use Rattle.std.specs.Io.KnownBytes.{Consumes, IsAtEnd}

-- reading nothing consumes nothing
pub Consumes-none : (a : Option (List ℕ)) → Consumes a a []
Consumes-none None = tt
Consumes-none (Some xs) = refl

-- one read after another
pub Consumes-append : (a b d : Option (List ℕ)) (xs ys : List ℕ) → Consumes a b xs → Consumes b d ys → Consumes a d (xs ++ ys)
Consumes-append None b d xs ys first second = tt
Consumes-append (Some x) None d xs ys first second = absurd first
Consumes-append (Some x) (Some y) None xs ys first second = absurd second
Consumes-append (Some x) (Some y) (Some z) xs ys first second = first ∙ ap (λ w. xs ++ w) second ∙ sym (append_assoc xs ys z)

-- a read of nothing leaves what was read before
pub Consumes-append-none : (a b d : Option (List ℕ)) (xs ys : List ℕ) → Consumes a b xs → Consumes b d ys → ys ≡ [] → Consumes a d xs
Consumes-append-none a b d xs ys first second none =
    let P : List ℕ → Type 0 = λ w. Consumes a d w in
    subst P (ap (λ w. xs ++ w) none ∙ append-nil xs) (Consumes-append a b d xs ys first second)

-- at the end all the bytes were read
pub Consumes-end : (a b : Option (List ℕ)) (xs : List ℕ) → Consumes a b xs → IsAtEnd b → IfSome a (λ told. xs ≡ told)
Consumes-end None b xs read end = tt
Consumes-end (Some x) None xs read end = absurd read
Consumes-end (Some x) (Some y) xs read end = sym (read ∙ ap (λ w. xs ++ w) end ∙ append-nil xs)
