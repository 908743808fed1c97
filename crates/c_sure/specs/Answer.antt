-- The answer of asking whether an action is sure.
use Rattle.std.specs.Prelude.{List, ℕ}
use Rattle.c_answers.specs.Answers.{pair_bytes, pair_size, Answer, answer}
use Rattle.price_change.specs.Sure.{SureOut}

-- place, sure
unfoldable pub sure_answer : SureOut → List ℕ → Answer
sure_answer v out = answer pair_size v.number (pair_bytes v.place v.sure) out
