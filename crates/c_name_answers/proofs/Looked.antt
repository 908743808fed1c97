-- The answer of an action found by its name.
use mathlib.Core.Path.{◌≡◌, ap, ◌∙◌}
use mathlib.Core.List.{List}
use Prim.Native.Nat.{ℕ, ◌≤◌, ◌<◌}
use lib.ListN.{length}
use Rattle.text_decimal.specs.Put.{PutAt}
use Rattle.model_find.specs.Find.{FindOut}
use Rattle.c_answers.specs.Answers.{pair_bytes, short, Answer, answered}
use Rattle.c_name_answers.specs.FindAnswer.{find_answer}
use Rattle.c_answers.proofs.Bytes.{pair_length}
use Rattle.c_answers.proofs.Answered.{no_room, room}

module _ (v : FindOut) (out : List ℕ) where
  pub find_short : {r : ℕ} → length out < 8 → r ≡ short v.number → answered r out ≡ find_answer v out
  unfolding find_answer
  find_short h e = no_room 8 v.number (pair_bytes v.place v.action) out h e

  pub find_whole : {after : List ℕ} {n : ℕ} → 8 ≤ length out → PutAt out 0 (pair_bytes v.place v.action) n after → answered v.number after ≡ find_answer v out
  unfolding find_answer
  find_whole h p = room 8 v.number (pair_bytes v.place v.action) out h (pair_length v.place v.action) p

-- o is what the code found
pub find_given : (out : List ℕ) {o v : FindOut} {x : Answer} → x ≡ find_answer o out → o ≡ v → x ≡ find_answer v out
find_given out e f = e ∙ ap (λ (o : FindOut). find_answer o out) f
