-- What the numbers of lines come to, by key.
use Rattle.std.specs.Prelude.{ℕ, ◌+◌, ◌==◌, Bool, true, false, if◌then◌else◌, ℤ, ◌+ℤ◌, List, [], ◌∷◌, take, drop, Option, Some, None}
use Rattle.std.specs.Int.{int_max, int_min, int_wrap, w128}
use Rattle.std.specs.List.{fold}
use Rattle.std.specs.Str.{bytes_eq}
use Rattle.plinq_text.specs.Fields.{place_of}
use Rattle.plinq_text.specs.Lines.{Line}
use Rattle.plinq_text.specs.Numbers.{number_of}
use Rattle.plinq_tally.specs.declared.figure.Figure.{Figure}
use Rattle.plinq_tally.specs.Tallies.{keyed, one_more}

-- those of one number, in billionths
abbrev pub first_figure : ℤ → Figure
first_figure x = record { count = 1; sum = x; least = x; greatest = x }

-- those with a number more
abbrev pub with_number : ℤ → Figure → Figure
with_number x f = record {
  count = one_more f.count;
  sum = int_wrap w128 (f.sum +ℤ x);
  least = int_min f.least x;
  greatest = int_max f.greatest x;
}

-- what stands in a text before the first byte of this value, and what comes after it
abbrev pub number_in : ℕ → List ℕ → List ℕ
number_in byte text = take (place_of (λ b. b == byte) text) text

abbrev pub key_in : ℕ → List ℕ → List ℕ
key_in byte text = drop (place_of (λ b. b == byte) text + 1) text

-- a number comes under a key, if there is one
abbrev pub figured_number : Option ℤ → List ℕ → List (List ℕ × Figure) → List (List ℕ × Figure)
figured_number None key gs = gs
figured_number (Some x) key gs = keyed (first_figure x) (with_number x) gs key

-- a line comes: a number, the separator, and its key
abbrev pub figured : ℕ → List (List ℕ × Figure) → List ℕ → List (List ℕ × Figure)
figured byte gs text = figured_number (number_of (number_in byte text)) (key_in byte text) gs

-- these lines come
abbrev pub figured_lines : ℕ → List (List ℕ × Figure) → List Line → List (List ℕ × Figure)
figured_lines byte gs ls = fold (λ gs l. figured byte gs l.text) gs ls

-- the figure of a key, if it has one
abbrev pub figure_at : List ℕ → List (List ℕ × Figure) → Option Figure
figure_at key [] = None
figure_at key (g ∷ gs) = if bytes_eq key g.0 then Some g.1 else figure_at key gs

-- one number more
abbrev pub and_number : Option Figure → ℤ → Option Figure
and_number None x = Some (first_figure x)
and_number (Some f) x = Some (with_number x f)

-- a number in front of others, if it is one of theirs
abbrev pub number_among : Bool → Option ℤ → List ℤ → List ℤ
number_among false x xs = xs
number_among true None xs = xs
number_among true (Some x) xs = x ∷ xs

-- the numbers of the lines with a key, in their order
abbrev pub numbers_with : ℕ → List ℕ → List Line → List ℤ
numbers_with byte key [] = []
numbers_with byte key (l ∷ ls) = number_among (bytes_eq key (key_in byte l.text)) (number_of (number_in byte l.text)) (numbers_with byte key ls)
