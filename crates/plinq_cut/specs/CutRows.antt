-- Rows of a cut: which number it may be, what its passes know, and which keys end a plan's run.
use Rattle.std.specs.Prelude.{◌≡◌, refl, ℕ, ◌==◌, pos, List, [], ◌∷◌, Bool, true, false}
use Rattle.std.proofs.Common.{◌∙◌, ap, arith}
use lib.ListN.{get_elem?}
use Rattle.plinq_source.specs.Trace.{Trace, ended_trace}
use Rattle.plinq_source.specs.declared.ending.Ending.TheVariants.{End}
use Rattle.plinq_keyed.specs.Keys.{is_among}
use Rattle.plinq_ops.specs.declared.op.Op.{Op}
use Rattle.plinq_ops.specs.declared.op.Op.TheVariants.{Take}
use Rattle.plinq_ops.specs.declared.plan.Plan.{Plan}
use Rattle.plinq_ops.specs.Operator.{example}
use Rattle.plinq_ops.specs.Cut.{stop_keys}
use Rattle.plinq_cut.specs.Cutting.{is_cut_of, Knows, IsLawful, Sees, together}
use Rattle.plinq_cut.specs.Views.{is_passing, view_least}
use Rattle.plinq_cut.specs.OfPlan.{AreStopKeys}
use Rattle.plinq_cut.specs.declared.view.View.{View}
use Rattle.plinq_cut.specs.declared.view.View.TheVariants.{Passing, Joined}

abbrev stops_at_five : ℕ → Bool
stops_at_five key = key == 5

-- ---- what a pass knows

passes_until_it_is_joined : is_passing (Passing 7) ≡ true
passes_until_it_is_joined = refl

passes_no_more : is_passing Joined ≡ false
passes_no_more = refl

its_least : view_least (Passing 7) ≡ 7
its_least = refl

the_lesser_of_two : together (Passing 7) (Passing 5) ≡ Passing 5
the_lesser_of_two = refl

the_lesser_of_two_in_turn : together (Passing 5) (Passing 7) ≡ Passing 5
the_lesser_of_two_in_turn = refl

with_one_that_was_joined : together (Passing 7) Joined ≡ Passing 7
with_one_that_was_joined = refl

knows_a_lesser_word : Knows 5 (Passing 7)
knows_a_lesser_word = omega arith

knows_a_greater_word : Knows 7 (Passing 5) → ⊥
knows_a_greater_word knows = absurd (omega (arith, knows))

-- ---- the rule

a_word_at_no_end : (views : List View) → IsLawful stops_at_five 4 views → ⊥
a_word_at_no_end views lawful = let bad : false ≡ true = lawful.cut in cc

a_word_above_what_a_pass_has_seen : IsLawful stops_at_five 5 (Passing 4 ∷ []) → ⊥
a_word_above_what_a_pass_has_seen lawful = absurd (omega (arith, lawful.known 0 (Passing 4) refl))

a_word_above_what_the_second_has_seen : IsLawful stops_at_five 5 (Passing 5 ∷ Passing 4 ∷ []) → ⊥
a_word_above_what_the_second_has_seen lawful = absurd (omega (arith, lawful.known 1 (Passing 4) refl))

-- ---- what a step reports

sees_an_end : Sees stops_at_five 5 5 (Passing 7) (Passing 5)
sees_an_end = (refl, omega arith, refl)

sees_no_end : Sees stops_at_five 4 4 (Passing 7) (Passing 4) → ⊥
sees_no_end sees = let bad : false ≡ true = sees.0 in cc

sees_more_than_before : Sees stops_at_five 5 5 (Passing 3) (Passing 5) → ⊥
sees_more_than_before sees = absurd (omega (arith, sees.1))

forgets_what_it_saw : Sees stops_at_five 5 5 (Passing 7) (Passing 7) → ⊥
forgets_what_it_saw sees = let same = sees.2 in absurd (cc)

-- ---- the keys of a plan

-- a Take of two items, which the workers apply
abbrev takes_two : Plan ℕ → Type 0
takes_two plan = plan.worker.now ≡ Take (pos 2) ∷ []

abbrev three_items : Trace ℕ
three_items = ended_trace (5 ∷ 6 ∷ 7 ∷ []) End

-- whether a key is one at which these operators end its run
abbrev stops : List (Op ℕ) → ℕ → Bool
stops ops = is_among (stop_keys (λ _. example) ops 0 three_items.items)

its_last_item_is_left_out : (plan : Plan ℕ) → takes_two plan → AreStopKeys (λ (_ : ℕ). example) plan three_items (λ key. key == 2) → ⊥
its_last_item_is_left_out plan is keys = let bad : false ≡ true = keys 1 ∙ ap (λ ops. stops ops 1) is in cc

a_key_before_it_ends_the_run : (plan : Plan ℕ) → takes_two plan → AreStopKeys (λ (_ : ℕ). example) plan three_items (λ key. true) → ⊥
a_key_before_it_ends_the_run plan is keys = let bad : true ≡ false = keys 0 ∙ ap (λ ops. stops ops 0) is in cc
