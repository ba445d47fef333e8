-- Worked rows of figures.
use Rattle.std.specs.Prelude.{◌≡◌, refl, pos, neg_ℤ, [], ◌∷◌, codes}
use Rattle.std.specs.Fmt.{digits}
use Rattle.std.specs.Int.{int_wrap}
use Rattle.plinq_text.specs.Lines.{full_line}
use Rattle.plinq_text.specs.Numbers.{digits as read_digits}
use Rattle.plinq_tally.specs.Figures.{figured_lines}
use Rattle.plinq_tally.specs.FigureText.{figures_text, number_text}
use Rattle.plinq_tally.specs.declared.figure_text.Told.TheVariants.{Greatest, Mean, Sum}

a_whole_number_has_no_point : number_text (pos 12000000000) ≡ codes "12"
unfolding digits
a_whole_number_has_no_point = refl

zeros_at_the_end_are_left_out : number_text (pos 3250000000) ≡ codes "3.25"
unfolding digits
zeros_at_the_end_are_left_out = refl

those_before_are_not : number_text (neg_ℤ (pos 1000000010)) ≡ codes "-1.00000001"
unfolding digits
those_before_are_not = refl

two_keys : figures_text Sum (figured_lines 32 [] (full_line (codes "2 b") ∷ full_line (codes "1 a") ∷ full_line (codes ".5 b") ∷ [])) ≡ codes "2.5\tb\n1\ta\n"
unfolding digits read_digits int_wrap
two_keys = refl

no_key : figures_text Mean (figured_lines 32 [] (full_line (codes "1") ∷ full_line (codes "-2") ∷ full_line (codes "-4") ∷ [])) ≡ codes "-1.666666666\n"
unfolding digits read_digits int_wrap
no_key = refl

the_greatest : figures_text Greatest (figured_lines 44 [] (full_line (codes "-7,x") ∷ full_line (codes "-3,x") ∷ [])) ≡ codes "-3\tx\n"
unfolding digits read_digits int_wrap
the_greatest = refl
