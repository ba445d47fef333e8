-- The words of merge options.
use Rattle.std.specs.Prelude.{◌≡◌, ℕ, List, Some, ⊤, refl}
use Rattle.plinq_words.proofs.FoundByName.{first_named-has}
use Rattle.plinq_ops.specs.declared.merge_option.MergeOption.{MergeOption}
use Rattle.plinq_ops.specs.declared.merge_option.MergeOption.TheVariants.{Default, NotBuffered, AutoBuffered, FullyBuffered}
use Rattle.plinq_ops.specs.MergeWords.{merge_name, merge_options, merge_named}

pub merge_named-own : (option : MergeOption) → merge_named (merge_name option) ≡ Some option
merge_named-own Default = refl
merge_named-own NotBuffered = refl
merge_named-own AutoBuffered = refl
merge_named-own FullyBuffered = refl

pub merge_named-has : (word : List ℕ) (option : MergeOption) → merge_named word ≡ Some option → word ≡ merge_name option
merge_named-has word option is = (first_named-has (λ _. ⊤) merge_name merge_options word option (tt, (tt, (tt, (tt, tt)))) is).0
