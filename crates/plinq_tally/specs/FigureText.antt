-- What is written of figures.
use Rattle.std.specs.Prelude.{ℕ, ◌+◌, ◌/◌, ◌%◌, ◌==◌, if◌then◌else◌, ℤ, pos, int_div, int_lt, unsigned_abs, List, [], ◌∷◌, ◌++◌, decimal, drop, flat_map}
use Rattle.plinq_tally.specs.declared.figure.Figure.{Figure}
use Rattle.plinq_tally.specs.declared.figure_text.Told.{Told}
use Rattle.plinq_tally.specs.declared.figure_text.Told.TheVariants.{Sum, Least, Greatest, Mean}

-- digits without the zeros at their end
abbrev pub kept_digit : ℕ → List ℕ → List ℕ
kept_digit b [] = if b == 48 then [] else b ∷ []
kept_digit b (c ∷ rest) = b ∷ c ∷ rest

abbrev pub trimmed : List ℕ → List ℕ
trimmed [] = []
trimmed (b ∷ rest) = kept_digit b (trimmed rest)

-- a point and so many billionths; nothing if there are none
abbrev pub fraction_text : ℕ → List ℕ
fraction_text part = if part == 0 then [] else 46 ∷ trimmed (drop 1 (decimal (1000000000 + part)))

-- a number of so many billionths, without a sign
abbrev pub size_text : ℕ → List ℕ
size_text n = decimal (n / 1000000000) ++ fraction_text (n % 1000000000)

-- a number of so many billionths
abbrev pub number_text : ℤ → List ℕ
number_text x = if int_lt x (pos 0) then 45 ∷ size_text (unsigned_abs x) else size_text (unsigned_abs x)

-- what is told of numbers, in billionths; a mean is cut toward zero there
abbrev pub told_number : Told → Figure → ℤ
told_number Sum f = f.sum
told_number Least f = f.least
told_number Greatest f = f.greatest
told_number Mean f = if f.count == 0 then pos 0 else int_div f.sum (pos f.count)

-- the line of a key: what is told and, unless the key is empty, a tab and the key
abbrev pub key_text : List ℕ → List ℕ
key_text [] = 10 ∷ []
key_text (b ∷ key) = 9 ∷ b ∷ (key ++ 10 ∷ [])

abbrev pub figure_line : Told → List ℕ × Figure → List ℕ
figure_line told g = number_text (told_number told g.1) ++ key_text g.0

-- a line for each key
abbrev pub figures_text : Told → List (List ℕ × Figure) → List ℕ
figures_text told gs = flat_map (figure_line told) gs
