-- What a clause says of a cut and its passes.
use Rattle.std.specs.Prelude.{◌≡◌, ℕ}
use Rattle.plinq_cut.specs.declared.cut_pass.CutPass.{CutPass}
use Rattle.plinq_cut.specs.declared.cut_word.CutWord.{CutWord}
use Rattle.plinq_cut.specs.Views.{view_least}

-- the least number that a pass has seen
abbrev pub least : CutPass → ℕ
least pass = view_least pass.seat.me.0

-- a pass of this cut
abbrev pub IsPassOf : {E : Type 0} → CutWord E → CutPass → Type 0
IsPassOf cut pass = pass.seat.table_id ≡ cut.table.shared.table_id
