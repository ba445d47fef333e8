-- The lines that the program prints of a source cut into partitions.
use Rattle.std.specs.Prelude.{◌≡◌, ℕ, ◌+◌, ℤ, pos, List, [], ◌∷◌, ◌++◌, Bool, true, false, codes, decimal, refl}
use Rattle.std.specs.List.{flat_map}
use Rattle.std.specs.Fmt.{signed_decimal, digits}
use Rattle.plinq_source.specs.declared.ending.Ending.TheVariants.{End}
use Rattle.plinq_source.specs.Trace.{Trace, ended_trace}
use Rattle.plinq_keyed.specs.declared.keyed.Keyed.{Keyed}
use Rattle.plinq_keyed.specs.declared.properties.KeyProperties.{KeyProperties}
use Rattle.plinq_keyed.specs.Keys.{keyed_from}
use Rattle.plinq_partition.specs.Cuts.{cuts}
use Rattle.plinq_lines.specs.AnswerText.{line, ending_line}

-- yes or no, in a word
abbrev pub truth : Bool → List ℕ
truth true = codes " true"
truth false = codes " false"

-- the three key properties, in the order in each, across, normalized
abbrev pub properties_line : KeyProperties → List ℕ
properties_line p = codes "properties" ++ (truth p.in_each ++ (truth p.across ++ line (truth p.normalized)))

-- an element: a space, its key, an equals sign and its value
abbrev pub element_words : Keyed ℤ → List ℕ
element_words x = 32 ∷ decimal x.key ++ 61 ∷ signed_decimal x.value

-- a partition: its number, a colon, and its elements
abbrev pub part_line : ℕ → List (Keyed ℤ) → List ℕ
part_line p xs = decimal p ++ 58 ∷ line (flat_map element_words xs)

-- the partitions from number p on, a line each
abbrev pub part_lines : ℕ → List (List (Keyed ℤ)) → List ℕ
part_lines p [] = []
part_lines p (xs ∷ parts) = part_line p xs ++ part_lines (p + 1) parts

abbrev pub all_true : KeyProperties
all_true = record { in_each = true; across = true; normalized = true }

-- what a source gives, cut into n partitions under its places as keys, and how it ends
abbrev pub parts_text : ℕ → Trace ℤ → List ℕ
parts_text n u = properties_line all_true ++ (part_lines 0 (cuts (keyed_from 0 u.items) n) ++ ending_line u.ending)

-- ---- worked rows

pub five_in_two : parts_text 2 (ended_trace (pos 5 ∷ pos 6 ∷ pos 7 ∷ pos 8 ∷ pos 9 ∷ []) End)
    ≡ codes "properties true true true\n0: 0=5 1=6\n1: 2=7 3=8 4=9\nend\n"
unfolding digits
five_in_two = refl

pub none_in_two : parts_text 2 (ended_trace [] End) ≡ codes "properties true true true\n0:\n1:\nend\n"
unfolding digits
none_in_two = refl

pub each_in_its_place : properties_line (record { in_each = true; across = false; normalized = true }) ≡ codes "properties true false true\n"
each_in_its_place = refl
