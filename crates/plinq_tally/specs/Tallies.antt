-- How often each text comes.
use Rattle.std.specs.Prelude.{ℕ, ◌+◌, ◌%◌, if◌then◌else◌, List, [], ◌∷◌, ◌++◌, decimal, flat_map}
use Rattle.std.specs.List.{fold}
use Rattle.std.specs.Str.{bytes_eq}
use Rattle.plinq_text.specs.Lines.{Line}

-- one more, modulo 2^64
abbrev pub one_more : ℕ → ℕ
one_more n = (n + 1) % 18446744073709551616

-- what a key has grows where it stands, and a new key stands last with this first value
abbrev pub keyed : {V : Type 0} → V → (V → V) → List (List ℕ × V) → List ℕ → List (List ℕ × V)
keyed first more [] key = (key, first) ∷ []
keyed first more (g ∷ gs) key = if bytes_eq key g.0 then (g.0, more g.1) ∷ gs else g ∷ keyed first more gs key

-- this text comes once more
abbrev pub counted : List (List ℕ × ℕ) → List ℕ → List (List ℕ × ℕ)
counted gs text = keyed 1 one_more gs text

-- the texts of these lines come
abbrev pub tallied : List (List ℕ × ℕ) → List Line → List (List ℕ × ℕ)
tallied gs ls = fold (λ gs l. counted gs l.text) gs ls

-- how often this text came
abbrev pub times : List ℕ → List (List ℕ × ℕ) → ℕ
times text [] = 0
times text (g ∷ gs) = if bytes_eq text g.0 then g.1 else times text gs

-- how many texts came in all, modulo 2^64
abbrev pub total : List (List ℕ × ℕ) → ℕ
total gs = fold (λ n g. (n + g.1) % 18446744073709551616) 0 gs

-- the line of how many came
abbrev pub total_text : List (List ℕ × ℕ) → List ℕ
total_text gs = decimal (total gs) ++ 10 ∷ []

-- the line of a text and its count: the count, a tab, and the text
abbrev pub count_line : List ℕ × ℕ → List ℕ
count_line g = decimal g.1 ++ 9 ∷ (g.0 ++ 10 ∷ [])

-- a line for each text
abbrev pub tally_text : List (List ℕ × ℕ) → List ℕ
tally_text gs = flat_map count_line gs
