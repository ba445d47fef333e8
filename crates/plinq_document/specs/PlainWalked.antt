-- What a value of each plain source stands for: all that it gives, and how many items of that it has given.
use Rattle.std.specs.Prelude.{ℕ, ℤ}
use Rattle.plinq_source.specs.Trace.{Trace}
use Rattle.plinq_source.specs.Walked.{IsSource, list_whole, list_given, list_walked, text_whole, text_given, text_walked, range_whole, range_given}
use Rattle.plinq_source.specs.Walked.{range_walked, repeat_whole, repeat_given, repeat_walked}
use Rattle.plinq_document.specs.declared.plain_source.PlainSource.{PlainSource}
use Rattle.plinq_document.specs.declared.plain_source.PlainSource.TheVariants.{List, Text, Range, Repeat}

-- one of the five
abbrev pub plain_whole : PlainSource → Trace ℤ
plain_whole (List s) = list_whole s
plain_whole (Text s) = text_whole s
plain_whole (Range s) = range_whole s
plain_whole (Repeat s) = repeat_whole s

abbrev pub plain_given : PlainSource → ℕ
plain_given (List s) = list_given s
plain_given (Text s) = text_given s
plain_given (Range s) = range_given s
plain_given (Repeat s) = repeat_given s

pub plain_walked : (s : PlainSource) → IsSource (plain_whole s) (plain_given s)
plain_walked (List s) = list_walked s
plain_walked (Text s) = text_walked s
plain_walked (Range s) = range_walked s
plain_walked (Repeat s) = repeat_walked s
