-- The pond with W 10 at 20 and the rain at 200, two steps left, worked out by computing: 100 × 10² + 28,000 = 38,000, actions 2 and 1.
use Rattle.std.specs.Prelude.{◌≡◌, refl, true, [], pos, negsuc}
use Rattle.whole.specs.Linears.{eq_ℤ}
use Rattle.whole.specs.Numerator.{number, words}
use Rattle.whole_wide.specs.Wide.{in_two_words}
use Rattle.theory.specs.Total.{num, none}
use Rattle.theory.specs.Verdict.{Site, site_of}
use Rattle.theory.specs.Value.{Asked, refused_value, answered}
use Rattle.value_joined.specs.Total.{refused_total, no_total, answered_number, crosswise, both_read, same_scale, total_after}

-- m, n, A and W
abbrev pond : Site
pond = site_of 1 0 2 10

abbrev rain : Site
rain = site_of 1 1 1 10

by_hand : both_read pond rain 2 (answered (num (pos 100)) 2) (answered (num (pos 28000)) 1) ≡ record { number = 0; place = 0; first = 2; second = 1; numerator = words (pos 38000) }
unfolding both_read answered answered_number crosswise in_two_words number words
by_hand = refl

-- the other way round the powers change sides with the sites
turned : both_read rain pond 2 (answered (num (pos 28000)) 1) (answered (num (pos 100)) 2) ≡ record { number = 0; place = 0; first = 1; second = 2; numerator = words (pos 38000) }
unfolding both_read answered answered_number crosswise in_two_words number words
turned = refl

-- none on either side
one_none : both_read pond rain 2 (answered none 2) (answered (num (pos 28000)) 1) ≡ no_total
unfolding both_read answered
one_none = refl

-- the first's product, 170141183460469231731687303715885 × 10⁶, lies outside two words; the total is the largest within, and one more is outside
comes_back : both_read pond rain 6 (answered (num (pos 170141183460469231731687303715885)) 2)
    (answered (num (negsuc 894272)) 1) ≡ record { number = 0; place = 0; first = 2; second = 1; numerator = words (pos 170141183460469231731687303715884105727) }
unfolding both_read answered answered_number crosswise in_two_words number words
comes_back = refl

does_not : both_read pond rain 6 (answered (num (pos 170141183460469231731687303715885)) 2) (answered (num (negsuc 894271)) 1) ≡ refused_total 11 0
unfolding both_read answered answered_number crosswise in_two_words number words
does_not = refl

-- −2¹²⁷ is inside
least_inside : in_two_words (negsuc 170141183460469231731687303715884105727) ≡ true
unfolding in_two_words
least_inside = refl

-- ---- the order: all of the first's refusals, then the second's, then 26, also before none

at_one : Asked
at_one = record { mask = 0; nums = []; den = pos 1 }

at_halves : Asked
at_halves = record { mask = 0; nums = []; den = pos 2 }

first_refused : total_after pond rain 2 at_one at_halves (refused_value 14 0) (refused_value 10 0) ≡ refused_total 14 0
unfolding total_after
first_refused = refl

second_refused : total_after pond rain 2 at_one at_halves (answered (num (pos 100)) 2) (refused_value 4 9) ≡ refused_total 4 9
unfolding total_after answered
second_refused = refl

other_den : total_after pond rain 2 at_one at_halves (answered none 2) (answered (num (pos 28000)) 1) ≡ refused_total 26 0
unfolding total_after answered same_scale eq_ℤ at_one at_halves
other_den = refl
