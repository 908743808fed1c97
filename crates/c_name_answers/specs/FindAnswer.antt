-- The answer of finding an action by its name.
use Rattle.std.specs.Prelude.{List, ℕ}
use Rattle.model_find.specs.Find.{FindOut}
use Rattle.c_answers.specs.Answers.{pair_bytes, pair_size, Answer, answer}

-- place, action
unfoldable pub find_answer : FindOut → List ℕ → Answer
find_answer v out = answer pair_size v.number (pair_bytes v.place v.action) out
