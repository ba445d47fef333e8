-- What a pass's view says.
use Rattle.std.specs.Prelude.{ℕ, Bool, true, false}
use Rattle.plinq_cut.specs.declared.view.View.{View}
use Rattle.plinq_cut.specs.declared.view.View.TheVariants.{Passing, Joined}

-- no other pass has taken it in
abbrev pub is_passing : View → Bool
is_passing (Passing least) = true
is_passing Joined = false

-- the least number that a pass has seen
abbrev pub view_least : View → ℕ
view_least (Passing least) = least
view_least Joined = 0
