-- A tally counts how often each text comes.
use Rattle.std.proofs.Common.{◌≡◌, ℕ, suc, ◌+◌, ◌%◌, ◌<◌, Bool, true, false, if◌then◌else◌, List, [], ◌∷◌, filter, length, arith, refl, ap, sym, subst, ◌∙◌}
use Rattle.std.proofs.Math.Nat.{add-mod-mod, mod-add-mod, mod-eq_of_lt, mod-lt}
use Rattle.std.proofs.Math.Bool.{true≢false}
use Rattle.std.specs.Cmp.Lexicographic.{same_text}
use Rattle.std.specs.List.{fold}
use Rattle.std.specs.Str.{bytes_eq}
use Rattle.plinq_text.specs.Lines.{Line}
use Rattle.plinq_tally.specs.Tallies.{counted, one_more, tallied, times, total}

abbrev most : ℕ
most = 18446744073709551616

module _ (t : List ℕ) where
  -- one text more counts for itself alone
  times-counted : (gs : List (List ℕ × ℕ)) (u : List ℕ) → times t (counted gs u) ≡ (if bytes_eq t u then one_more (times t gs) else times t gs)
  times-counted [] u = by (bytes_eq t u)
    where
      by : (b : Bool) → (if b then 1 else 0) ≡ (if b then one_more 0 else 0)
      by true = refl
      by false = refl
  times-counted (g ∷ gs) u = by (times-counted gs u) (bytes_eq u g.0) (bytes_eq t g.0) (bytes_eq t u) refl refl refl
    where
      by : times t (counted gs u) ≡ (if bytes_eq t u then one_more (times t gs) else times t gs)
          → (ug tg tu : Bool) → bytes_eq u g.0 ≡ ug → bytes_eq t g.0 ≡ tg → bytes_eq t u ≡ tu
          → times t (if ug then (g.0, one_more g.1) ∷ gs else g ∷ counted gs u)
          ≡ (if tu then one_more (if tg then g.1 else times t gs) else if tg then g.1 else times t gs)
      by later true true true ug tg tu = ap (λ b. if b then one_more g.1 else times t gs) tg
      by later true false false ug tg tu = ap (λ b. if b then one_more g.1 else times t gs) tg
      by later true true false ug tg tu = absurd (true≢false (sym tg ∙ ap (bytes_eq t) (sym (same_text u g.0 (sym ug))) ∙ tu))
      by later true false true ug tg tu = absurd (true≢false (sym tu ∙ ap (bytes_eq t) (same_text u g.0 (sym ug)) ∙ tg))
      by later false true true ug tg tu = absurd (true≢false (sym tg ∙ ap (λ x. bytes_eq x g.0) (same_text t u (sym tu)) ∙ ug))
      by later false true false ug tg tu = ap (λ b. if b then g.1 else times t (counted gs u)) tg
      by later false false tu' ug tg tu =
          ap (λ b. if b then g.1 else times t (counted gs u)) tg ∙ later ∙ ap (λ b. if b then one_more (times t gs) else times t gs) tu

  -- how often it comes among lines
  abbrev among : List Line → ℕ
  among ls = length (filter (λ l. bytes_eq t l.text) ls)

  times-more : (gs : List (List ℕ × ℕ)) (ls : List Line) → times t gs < most → times t (tallied gs ls) ≡ (times t gs + among ls) % most
  times-more gs [] small =
      sym (mod-eq_of_lt small) ∙ (let none : times t gs ≡ times t gs + 0 = omega arith in ap (λ n. n % most) none)
  times-more gs (l ∷ ls) small =
      by (bytes_eq t l.text) (times-counted gs l.text) (times-more (counted gs l.text) ls)
    where
      by : (b : Bool) → times t (counted gs l.text) ≡ (if b then one_more (times t gs) else times t gs)
          → (times t (counted gs l.text) < most → times t (tallied (counted gs l.text) ls) ≡ (times t (counted gs l.text) + among ls) % most)
          → times t (tallied (counted gs l.text) ls)
          ≡ (times t gs + length (if b then l ∷ filter (λ l. bytes_eq t l.text) ls else filter (λ l. bytes_eq t l.text) ls)) % most
      by true is later = later (subst (λ n. n < most) (sym is) (mod-lt (times t gs + 1) (omega arith)))
          ∙ ap (λ n. (n + among ls) % most) is
          ∙ mod-add-mod (times t gs + 1) most (among ls)
          ∙ ap (λ n. n % most) (omega arith)
      by false is later = later (subst (λ n. n < most) (sym is) small) ∙ ap (λ n. (n + among ls) % most) is

-- a tally has how often a text came, modulo 2^64
pub counts-are-times : (t : List ℕ) (ls : List Line) → times t (tallied [] ls) ≡ length (filter (λ l. bytes_eq t l.text) ls) % 18446744073709551616
counts-are-times t ls =
    times-more t [] ls (omega arith) ∙ (let same : 0 + among t ls ≡ among t ls = omega arith in ap (λ n. n % most) same)

-- the sum of all counts
abbrev sum : List (List ℕ × ℕ) → ℕ
sum [] = 0
sum (g ∷ gs) = g.1 + sum gs

total-from : (n : ℕ) (gs : List (List ℕ × ℕ)) → n < most → fold (λ n g. (n + g.1) % most) n gs ≡ (n + sum gs) % most
total-from n [] small = sym (mod-eq_of_lt small) ∙ (let none : n ≡ n + 0 = omega arith in ap (λ n. n % most) none)
total-from n (g ∷ gs) small =
    total-from ((n + g.1) % most) gs (mod-lt (n + g.1) (omega arith))
    ∙ mod-add-mod (n + g.1) most (sum gs)
    ∙ (let same : (n + g.1) + sum gs ≡ n + (g.1 + sum gs) = omega arith in ap (λ n. n % most) same)

-- one text more is one more in all
sum-counted : (gs : List (List ℕ × ℕ)) (t : List ℕ) → sum (counted gs t) % most ≡ (sum gs + 1) % most
sum-counted [] t = refl
sum-counted (g ∷ gs) t = by (bytes_eq t g.0) (sum-counted gs t)
  where
    by : (b : Bool) → sum (counted gs t) % most ≡ (sum gs + 1) % most
        → sum (if b then (g.0, one_more g.1) ∷ gs else g ∷ counted gs t) % most ≡ ((g.1 + sum gs) + 1) % most
    by true later =
        mod-add-mod (g.1 + 1) most (sum gs)
        ∙ (let same : (g.1 + 1) + sum gs ≡ (g.1 + sum gs) + 1 = omega arith in ap (λ n. n % most) same)
    by false later =
        sym (add-mod-mod g.1 (sum (counted gs t)) most)
        ∙ ap (λ n. (g.1 + n) % most) later
        ∙ add-mod-mod g.1 (sum gs + 1) most
        ∙ (let same : g.1 + (sum gs + 1) ≡ (g.1 + sum gs) + 1 = omega arith in ap (λ n. n % most) same)

sum-more : (gs : List (List ℕ × ℕ)) (ls : List Line) → sum (tallied gs ls) % most ≡ (sum gs + length ls) % most
sum-more gs [] = let none : sum gs ≡ sum gs + 0 = omega arith in ap (λ n. n % most) none
sum-more gs (l ∷ ls) =
    sum-more (counted gs l.text) ls
    ∙ sym (mod-add-mod (sum (counted gs l.text)) most (length ls))
    ∙ ap (λ n. (n + length ls) % most) (sum-counted gs l.text)
    ∙ mod-add-mod (sum gs + 1) most (length ls)
    ∙ (let same : (sum gs + 1) + length ls ≡ sum gs + suc (length ls) = omega arith in ap (λ n. n % most) same)

-- the counts of a tally add up to the number of lines, modulo 2^64
pub adds-up : (ls : List Line) → total (tallied [] ls) ≡ length ls % 18446744073709551616
adds-up ls =
    total-from 0 (tallied [] ls) (omega arith)
    ∙ (let same : 0 + sum (tallied [] ls) ≡ sum (tallied [] ls) = omega arith in ap (λ n. n % most) same)
    ∙ sum-more [] ls
    ∙ (let same : 0 + length ls ≡ length ls = omega arith in ap (λ n. n % most) same)
