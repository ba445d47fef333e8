use Rattle.std.proofs.Common.{rules}
use Rattle.plinq_cut.proofs.cut_word.CutWord.new.Goals as goal

pub of_words-requires : goal.of_words-requires
of_words-requires g c = search rules
