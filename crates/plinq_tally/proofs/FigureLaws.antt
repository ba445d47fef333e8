-- Figures, line by line and key by key.
use Rattle.std.proofs.Common.{◌≡◌, ℕ, ◌+◌, ◌==◌, Bool, true, false, List, [], ◌∷◌, ◌++◌, Option, Some, None, ℤ, slice_get, take, append-nil, if◌then◌else◌}
use Rattle.std.proofs.Common.{refl, ap, sym, ◌∙◌}
use Rattle.std.proofs.lemmas.Grind.{flat_map-append}
use Rattle.std.specs.List.{fold}
use Rattle.std.specs.Str.{bytes_eq}
use Rattle.std.specs.Cmp.Lexicographic.{same_text}
use Rattle.std.proofs.Math.Bool.{true≢false}
use Rattle.plinq_text.specs.Lines.{Line}
use Rattle.plinq_text.specs.Numbers.{number_of}
use Rattle.plinq_tally.specs.declared.figure.Figure.{Figure}
use Rattle.plinq_tally.specs.declared.figure_text.Told.{Told}
use Rattle.plinq_tally.specs.Figures.{and_number, figure_at, figured, figured_lines, figured_number, first_figure, key_in, number_among, number_in}
use Rattle.plinq_tally.specs.Figures.{numbers_with, with_number}
use Rattle.plinq_tally.specs.FigureText.{figure_line, figures_text, kept_digit, trimmed}
use Rattle.plinq_tally.specs.Tallies.{keyed}
use Rattle.plinq_tally.proofs.TallyLaws.{next-item}

-- one line more
abbrev pub after_figure : ℕ × List (List ℕ × Figure) → Line → ℕ × List (List ℕ × Figure)
after_figure v l = (v.0, figured v.0 v.1 l.text)

-- the line of one key more
pub figures-more : (told : Told) (gs : List (List ℕ × Figure)) (i : ℕ) (g : List ℕ × Figure) → slice_get gs i ≡ Some g
    → figures_text told (take (i + 1) gs) ≡ figures_text told (take i gs) ++ figure_line told g
figures-more told gs i g at =
    ap (figures_text told) (next-item gs i g at)
    ∙ flat_map-append (figure_line told) (take i gs) (g ∷ [])
    ∙ ap (λ b. figures_text told (take i gs) ++ b) (append-nil (figure_line told g))

-- a zero at the end is left out
pub trimmed-zero : (bs : List ℕ) → trimmed (bs ++ 48 ∷ []) ≡ trimmed bs
trimmed-zero [] = refl
trimmed-zero (b ∷ bs) = ap (kept_digit b) (trimmed-zero bs)

-- another digit is kept, and all before it
pub trimmed-kept : (bs : List ℕ) (d : ℕ) → (d == 48) ≡ false → trimmed (bs ++ d ∷ []) ≡ bs ++ d ∷ []
trimmed-kept [] d is = ap (λ b. if b then [] else d ∷ []) is
trimmed-kept (b ∷ bs) d is = ap (kept_digit b) (trimmed-kept bs d is) ∙ some b bs d
  where
    some : (b : ℕ) (bs : List ℕ) (d : ℕ) → kept_digit b (bs ++ d ∷ []) ≡ b ∷ (bs ++ d ∷ [])
    some b [] d = refl
    some b (c ∷ bs) d = refl

-- one more for the first of a key, or for what it has
abbrev grown : {V : Type 0} → V → (V → V) → Option V → V
grown first more None = first
grown first more (Some v) = more v

module _ (t : List ℕ) where
  -- a key grows alone
  at-keyed : (first : Figure) (more : Figure → Figure) (gs : List (List ℕ × Figure)) (u : List ℕ)
      → figure_at t (keyed first more gs u) ≡ (if bytes_eq t u then Some (grown first more (figure_at t gs)) else figure_at t gs)
  at-keyed first more [] u = refl
  at-keyed first more (g ∷ gs) u = by (at-keyed first more gs u) (bytes_eq u g.0) (bytes_eq t g.0) (bytes_eq t u) refl refl refl
    where
      by : figure_at t (keyed first more gs u) ≡ (if bytes_eq t u then Some (grown first more (figure_at t gs)) else figure_at t gs)
          → (ug tg tu : Bool) → bytes_eq u g.0 ≡ ug → bytes_eq t g.0 ≡ tg → bytes_eq t u ≡ tu
          → figure_at t (if ug then (g.0, more g.1) ∷ gs else g ∷ keyed first more gs u)
          ≡ (if tu then Some (grown first more (if tg then Some g.1 else figure_at t gs)) else if tg then Some g.1 else figure_at t gs)
      by later true true true ug tg tu = ap (λ b. if b then Some (more g.1) else figure_at t gs) tg
      by later true false false ug tg tu = ap (λ b. if b then Some (more g.1) else figure_at t gs) tg
      by later true true false ug tg tu = absurd (true≢false (sym tg ∙ ap (bytes_eq t) (sym (same_text u g.0 (sym ug))) ∙ tu))
      by later true false true ug tg tu = absurd (true≢false (sym tu ∙ ap (bytes_eq t) (same_text u g.0 (sym ug)) ∙ tg))
      by later false true true ug tg tu = absurd (true≢false (sym tg ∙ ap (λ x. bytes_eq x g.0) (same_text t u (sym tu)) ∙ ug))
      by later false true false ug tg tu = ap (λ b. if b then Some g.1 else figure_at t (keyed first more gs u)) tg
      by later false false tu' ug tg tu =
          ap (λ b. if b then Some g.1 else figure_at t (keyed first more gs u)) tg ∙ later
          ∙ ap (λ b. if b then Some (grown first more (figure_at t gs)) else figure_at t gs) tu

  -- a number of another key, or of this one
  at-number : (x : Option ℤ) (u : List ℕ) (gs : List (List ℕ × Figure)) (xs : List ℤ)
      → fold and_number (figure_at t (figured_number x u gs)) xs ≡ fold and_number (figure_at t gs) (number_among (bytes_eq t u) x xs)
  at-number None u gs xs = by (bytes_eq t u)
    where
      by : (b : Bool) → fold and_number (figure_at t gs) xs ≡ fold and_number (figure_at t gs) (number_among b None xs)
      by true = refl
      by false = refl
  at-number (Some x) u gs xs =
      ap (λ o. fold and_number o xs) (at-keyed (first_figure x) (with_number x) gs u) ∙ by (bytes_eq t u) (figure_at t gs)
    where
      by : (b : Bool) (o : Option Figure) → fold and_number (if b then Some (grown (first_figure x) (with_number x) o) else o) xs
          ≡ fold and_number o (number_among b (Some x) xs)
      by true None = refl
      by true (Some f) = refl
      by false o = refl

  at-lines : (byte : ℕ) (gs : List (List ℕ × Figure)) (ls : List Line)
      → figure_at t (figured_lines byte gs ls) ≡ fold and_number (figure_at t gs) (numbers_with byte t ls)
  at-lines byte gs [] = refl
  at-lines byte gs (l ∷ ls) =
      at-lines byte (figured byte gs l.text) ls
      ∙ at-number (number_of (number_in byte l.text)) (key_in byte l.text) gs (numbers_with byte t ls)

-- the figure of a key is that of its numbers
pub figures-are-of-numbers : (byte : ℕ) (key : List ℕ) (ls : List Line)
    → figure_at key (figured_lines byte [] ls) ≡ fold and_number None (numbers_with byte key ls)
figures-are-of-numbers byte key ls = at-lines key byte [] ls
