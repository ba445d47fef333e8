-- What a value of each source of a document stands for: all that it gives, and how many items of that it has given.
use Rattle.std.specs.Prelude.{ℕ, ℤ}
use Rattle.plinq_source.specs.Trace.{Trace}
use Rattle.plinq_source.specs.Walked.{IsSource, concat_whole, concat_given, concat_walked}
use Rattle.plinq_document.specs.PlainWalked.{plain_whole, plain_given, plain_walked}
use Rattle.plinq_document.specs.declared.any_source.AnySource.{AnySource}
use Rattle.plinq_document.specs.declared.any_source.AnySource.TheVariants.{Plain, Concat}

abbrev pub any_whole : AnySource → Trace ℤ
any_whole (Plain s) = plain_whole s
any_whole (Concat s) = concat_whole s

abbrev pub any_given : AnySource → ℕ
any_given (Plain s) = plain_given s
any_given (Concat s) = concat_given s

pub any_walked : (s : AnySource) → IsSource (any_whole s) (any_given s)
any_walked (Plain s) = plain_walked s
any_walked (Concat s) = concat_walked s plain_walked plain_walked
