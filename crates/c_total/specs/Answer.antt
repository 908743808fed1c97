-- The answer of two sites' total: place, both actions, low word, high word.
use Rattle.std.specs.Prelude.{List, ◌++◌, ℕ}
use Rattle.value_joined.specs.Total.{TotalOut}
use Rattle.c_answers.specs.Answers.{le, pair_bytes, Answer, answer}
use Rattle.c_value_answers.specs.ValueAnswer.{word_bytes}

abbrev pub total_size : ℕ
total_size = 28

unfoldable pub total_bytes : TotalOut → List ℕ
total_bytes v = pair_bytes v.place v.first ++ (le 4 v.second ++ word_bytes v.numerator.low v.numerator.high)

-- a short `out` is 17 "after 26 and before 11"
unfoldable pub total_answer : TotalOut → List ℕ → Answer
total_answer v out = answer total_size v.number (total_bytes v) out
