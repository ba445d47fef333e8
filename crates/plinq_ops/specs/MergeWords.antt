-- The words of merge options.
use Rattle.std.specs.Prelude.{◌≡◌, refl, ℕ, List, [], ◌∷◌, Option, None, codes}
use Rattle.plinq_words.specs.Named.{first_named}
use Rattle.plinq_ops.specs.declared.merge_option.MergeOption.{MergeOption}
use Rattle.plinq_ops.specs.declared.merge_option.MergeOption.TheVariants.{Default, NotBuffered, AutoBuffered, FullyBuffered}

-- the name of an option
abbrev pub merge_name : MergeOption → List ℕ
merge_name Default = codes "default"
merge_name NotBuffered = codes "not"
merge_name AutoBuffered = codes "auto"
merge_name FullyBuffered = codes "full"

-- all options
abbrev pub merge_options : List MergeOption
merge_options = NotBuffered ∷ AutoBuffered ∷ FullyBuffered ∷ Default ∷ []

-- the merge option of this name
abbrev pub merge_named : List ℕ → Option MergeOption
merge_named = first_named merge_name merge_options

a_beginning_of_a_name : merge_named (codes "no") ≡ None
a_beginning_of_a_name = refl
