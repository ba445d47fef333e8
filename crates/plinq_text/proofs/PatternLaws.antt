-- What a compiled pattern finds.
use Rattle.std.proofs.Common.{◌≡◌, ℕ, zero, suc, ◌<◌, ◌≤◌, Bool, false, List, [], ◌∷◌, get_or, length, Option, Some, None, IfSome, is_some, chars}
use Rattle.std.proofs.Common.{IsSomeAnd, arith, refl, sym, ap, ap₂, ◌∙◌, subst}
use Rattle.std.proofs.Math.Logic.{∥∥₁_elim, ∥∥₁_prop}
use Rattle.std.proofs.Math.Nat.{mod-eq_of_lt, mod-lt}
use Rattle.std.proofs.lemmas.Option.{same_Some}
use Rattle.std.specs.Coded.{coded_bool}
use Rattle.std.specs.Option.{ForSome}
use base.Stored.{Coded-set}
use Rattle.regex.proofs.ForCallers.{is_match_alike}
use Rattle.regex.specs.Bytes.{matcher_pattern, regex_pattern, regex_source}
use Rattle.regex.specs.declared.bytes.matcher.Matcher.{Matcher}
use Rattle.regex.specs.declared.bytes.regex.Regex.{Regex}
use Rattle.regex_hir.specs.Re.{Re}
use Rattle.regex_hir.specs.Find.{find}
use Rattle.regex_syntax.specs.Brackets.{Nested}
use Rattle.regex_syntax.specs.Captures.{SameCaptures}
use Rattle.regex_syntax.specs.Grammar.{Names, group_count, read}
use Rattle.regex_syntax.specs.Verdict.{Reads}
use Rattle.plinq_text.specs.Patterns.{as_bytes, found_by, pattern_finds}
use Rattle.plinq_text.specs.Compiled.{FindsAs, IsCompiled}

all-below : (text : List ℕ) (k : ℕ) → get_or (as_bytes text) k 0 < 256
all-below [] k = omega arith
all-below (b ∷ text) zero = mod-lt b (omega arith)
all-below (b ∷ text) (suc k) = all-below text k

-- the bytes of a slice are below 256
as-they-are : (text : List ℕ) → ((k : ℕ) → get_or text k 0 < 256) → as_bytes text ≡ text
as-they-are [] small = refl
as-they-are (b ∷ text) small = ap₂ (λ x xs. x ∷ xs) (mod-eq_of_lt (small 0)) (as-they-are text (λ k. small (suc k)))

-- a pattern finds what it was read as
by-reading : (o : Option (Nested Re × Names)) (most : ℕ) (a : Re) (names : Names)
    → IsSomeAnd o (λ (re, found). (re.depth ≤ most) × SameCaptures a re.value × (names ≡ found) × (group_count a ≤ length names))
    → (text : List ℕ) → is_some (find a (as_bytes text) 0) ≡ found_by o text
by-reading None most a names p text = absurd p
by-reading (Some found) most a names p text = is_match_alike p.1 (as_bytes text) (all-below text) false 0

finds-as-read : (r : Regex) → IsCompiled r → FindsAs (regex_source r) (regex_pattern r)
unfolding Reads
finds-as-read r c text = by-reading _ _ (regex_pattern r) _ c.1 text ∙ ap (λ config. found_by (read config (chars (regex_source r))) text) c.0

-- what was made to search for a compiled pattern finds what the pattern finds
pub made-to-find : (pattern : Option (List ℕ)) (o : Option Regex) (r : Regex) (m : Matcher) → ∥ ForSome o IsCompiled ∥₁ → o ≡ Some r
    → pattern ≡ Some (regex_source r) → matcher_pattern m ≡ regex_pattern r
    → ∥ ForSome (Some m) (λ m. ForSome pattern (λ p. FindsAs p (matcher_pattern m))) ∥₁
made-to-find pattern o r m compiled is at same =
    ∥∥₁_elim compiled ∥∥₁_prop (λ c. ∣ (λ x x_is p p_is.
    subst (λ y. FindsAs p (matcher_pattern y)) (same_Some _ _ x_is)
    (subst (λ q. FindsAs q (matcher_pattern m)) (same_Some _ _ (sym at ∙ p_is)) (subst (FindsAs (regex_source r)) (sym same) (finds-as-read r (c r is))))) ∣₁)

-- a search changes nothing about that
pub still-finds : (pattern : Option (List ℕ)) (o : Option Matcher) (m new : Matcher) → o ≡ Some m → matcher_pattern new ≡ matcher_pattern m
    → ∥ ForSome o (λ m. ForSome pattern (λ p. FindsAs p (matcher_pattern m))) ∥₁
    → ∥ ForSome (Some new) (λ m. ForSome pattern (λ p. FindsAs p (matcher_pattern m))) ∥₁
still-finds pattern o m new is same finds =
    ∥∥₁_elim finds ∥∥₁_prop (λ f. ∣ (λ x x_is p p_is.
    subst (λ y. FindsAs p (matcher_pattern y)) (same_Some _ _ x_is) (subst (FindsAs p) (sym same) (f m is p p_is))) ∣₁)

-- what a search says
pub says : (pattern : Option (List ℕ)) (o : Option Matcher) (m : Matcher) (found : Bool) (text : List ℕ) → o ≡ Some m
    → ∥ ForSome o (λ m. ForSome pattern (λ p. FindsAs p (matcher_pattern m))) ∥₁ → found ≡ is_some (find (matcher_pattern m) text 0)
    → ((k : ℕ) → get_or text k 0 < 256) → IfSome pattern (λ p. found ≡ pattern_finds p text)
says None o m found text is finds value small = tt
says (Some p) o m found text is finds value small =
    ∥∥₁_elim finds (Coded-set coded_bool _ _) (λ f.
    value ∙ ap (λ t. is_some (find (matcher_pattern m) t 0)) (sym (as-they-are text small)) ∙ f m is p refl text)
