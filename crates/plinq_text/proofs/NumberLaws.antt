-- Numbers, digit by digit.
use Rattle.std.proofs.Common.{◌≡◌, ℕ, List, [], ◌∷◌, Some, Option, refl, ap}
use Rattle.std.specs.Option.{option_and_then}
use Rattle.plinq_text.specs.Numbers.{digits, with_digit}

pub digits-nil : (n : ℕ) → digits n [] ≡ Some n
unfolding digits
digits-nil n = refl

-- one digit more
pub digits-cons : (n b : ℕ) (rest : List ℕ) (o : Option ℕ) → with_digit n b ≡ o → digits n (b ∷ rest) ≡ option_and_then (λ m. digits m rest) o
unfolding digits
digits-cons n b rest o is = ap (option_and_then (λ m. digits m rest)) is
