-- The rules by their numbers, as the code's `codes` has them: what a rule is called by, and the first word of its entries in the computed cache.
use Rattle.std.specs.Prelude.{ℕ}

abbrev pub sum_code : ℕ
sum_code = 0

abbrev pub product_code : ℕ
product_code = 1

abbrev pub best_code : ℕ
best_code = 2

abbrev pub scale_code : ℕ
scale_code = 3

abbrev pub shift_code : ℕ
shift_code = 4

abbrev pub complement_code : ℕ
complement_code = 5

abbrev pub number_code : ℕ
number_code = 6

abbrev pub yes_side_code : ℕ
yes_side_code = 7

abbrev pub no_side_code : ℕ
no_side_code = 8

abbrev pub walk_code : ℕ
walk_code = 9

abbrev pub choose_later_code : ℕ
choose_later_code = 10

abbrev pub choose_named_code : ℕ
choose_named_code = 11

abbrev pub substitute_code : ℕ
substitute_code = 12
