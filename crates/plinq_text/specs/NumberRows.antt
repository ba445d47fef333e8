-- Worked rows of numbers.
use Rattle.std.specs.Prelude.{◌≡◌, refl, pos, neg_ℤ, Some, None, codes}
use Rattle.plinq_text.specs.Numbers.{digits, number_of}

a_whole_number : number_of (codes "12") ≡ Some (pos 12000000000)
unfolding digits
a_whole_number = refl

zeros_in_front : number_of (codes "007") ≡ Some (pos 7000000000)
unfolding digits
zeros_in_front = refl

digits_after_the_point : number_of (codes "3.25") ≡ Some (pos 3250000000)
unfolding digits
digits_after_the_point = refl

nine_of_them : number_of (codes "0.000000001") ≡ Some (pos 1)
unfolding digits
nine_of_them = refl

ten_are_too_many : number_of (codes "0.0000000010") ≡ None
unfolding digits
ten_are_too_many = refl

none_before_the_point : number_of (codes ".5") ≡ Some (pos 500000000)
unfolding digits
none_before_the_point = refl

none_after_it : number_of (codes "5.") ≡ Some (pos 5000000000)
unfolding digits
none_after_it = refl

a_point_alone : number_of (codes ".") ≡ None
unfolding digits
a_point_alone = refl

less_than_none : number_of (codes "-1.5") ≡ Some (neg_ℤ (pos 1500000000))
unfolding digits
less_than_none = refl

a_plus_in_front : number_of (codes "+2") ≡ Some (pos 2000000000)
unfolding digits
a_plus_in_front = refl

two_signs : number_of (codes "-+2") ≡ None
unfolding digits
two_signs = refl

no_digit : number_of (codes "") ≡ None
no_digit = refl

an_exponent : number_of (codes "1e3") ≡ None
unfolding digits
an_exponent = refl

two_points : number_of (codes "1.2.3") ≡ None
unfolding digits
two_points = refl

the_greatest_before_the_point : number_of (codes "18446744073709551615") ≡ Some (pos 18446744073709551615000000000)
unfolding digits
the_greatest_before_the_point = refl

one_more : number_of (codes "18446744073709551616") ≡ None
unfolding digits
one_more = refl

blanks_around_it : number_of (codes " 5\t\r") ≡ Some (pos 5000000000)
unfolding digits
blanks_around_it = refl

another_word : number_of (codes "5 6") ≡ None
unfolding digits
another_word = refl
