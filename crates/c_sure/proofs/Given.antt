-- The answer of asking whether an action is sure.
use mathlib.Core.Path.{◌≡◌, ap, ap₂, ◌∙◌}
use mathlib.Core.List.{List}
use Prim.Native.Nat.{ℕ, ◌≤◌, ◌<◌}
use lib.IntN.{ℤ}
use lib.ListN.{length}
use Rattle.text_decimal.specs.Put.{PutAt}
use Rattle.theory.specs.Value.{Asked}
use Rattle.c_answers.specs.Answers.{pair_bytes, short, Answer, answered}
use Rattle.c_answers.proofs.Bytes.{pair_length}
use Rattle.c_answers.proofs.Answered.{no_room, room}
use Rattle.price_change.specs.Sure.{SureOut}
use Rattle.c_sure.specs.Answer.{sure_answer}

module _ (v : SureOut) (out : List ℕ) where
  pub sure_short : {r : ℕ} → length out < 8 → r ≡ short v.number → answered r out ≡ sure_answer v out
  unfolding sure_answer
  sure_short h e = no_room 8 v.number (pair_bytes v.place v.sure) out h e

  pub sure_whole : {after : List ℕ} {n : ℕ} → 8 ≤ length out → PutAt out 0 (pair_bytes v.place v.sure) n after → answered v.number after ≡ sure_answer v out
  unfolding sure_answer
  sure_whole h p = room 8 v.number (pair_bytes v.place v.sure) out h (pair_length v.place v.sure) p

-- o is what the code said at the state p and the change c, as they are read back, by a definition f
pub sure_given : (f : Asked → ℤ → SureOut) {p q : Asked} {c e : ℤ} (out : List ℕ) {o : SureOut} {x : Answer} → x ≡ sure_answer o out → o ≡ f p c → p ≡ q → c ≡ e → x ≡ sure_answer (f q e) out
sure_given f out k g h i = k ∙ ap (λ (o : SureOut). sure_answer o out) (g ∙ ap₂ f h i)
