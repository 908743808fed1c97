-- A total's answer: how long it is, that it is put part by part, and that it is given.
use mathlib.Core.Path.{◌≡◌, ap, ◌∙◌}
use mathlib.Core.List.{List, ◌++◌}
use Prim.Native.Nat.{ℕ, ◌≤◌, ◌<◌}
use native.Mathlib.Omega.{arith}
use lib.ListN.{length, length-append}
use mir.Syntax.{w64}
use mir.Val.{SFits}
use Rattle.whole.proofs.Signed.{R, back}
use Rattle.text_decimal.specs.Put.{PutAt}
use Rattle.text_decimal.proofs.Puts.{then, rename}
use Rattle.theory.specs.Value.{Asked}
use Rattle.value_joined.specs.Total.{TotalOut}
use Rattle.c_answers.specs.Answers.{le, pair_bytes, short, Answer, answered}
use Rattle.c_answers.proofs.Bytes.{le_length, pair_length}
use Rattle.c_answers.proofs.Answered.{no_room, room}
use Rattle.c_value_answers.specs.ValueAnswer.{word_bytes}
use Rattle.c_value_answers.proofs.Read.{words_length}
use Rattle.c_total.specs.Answer.{total_bytes, total_answer}

total_length : (v : TotalOut) → length (total_bytes v) ≡ 28
unfolding total_bytes
total_length v =
    let p : List ℕ = pair_bytes v.place v.first in
    let s : List ℕ = le 4 v.second in
    let w : List ℕ = word_bytes v.numerator.low v.numerator.high in
    omega (arith, length-append p (s ++ w), length-append s w, pair_length v.place v.first, le_length 4 v.second, words_length v.numerator.low v.numerator.high)

-- one part behind the other
pub total_put : {l l₁ l₂ l₃ : List ℕ} {n m k : ℕ} (v : TotalOut) → n ≤ length l₁ → SFits w64 v.numerator.high
    → PutAt l 0 (pair_bytes v.place v.first) n l₁ → PutAt l₁ n (le 4 v.second) m l₂ → PutAt l₂ m (word_bytes v.numerator.low (R v.numerator.high)) k l₃
    → PutAt l 0 (total_bytes v) k l₃
unfolding total_bytes
total_put v h f p q r = then (omega arith) p (then h q (rename (ap (word_bytes v.numerator.low) (back v.numerator.high f)) r))

module _ (v : TotalOut) (out : List ℕ) where
  pub total_short : {r : ℕ} → length out < 28 → r ≡ short v.number → answered r out ≡ total_answer v out
  unfolding total_answer
  total_short h e = no_room 28 v.number (total_bytes v) out h e

  pub total_whole : {after : List ℕ} {n : ℕ} → 28 ≤ length out → PutAt out 0 (total_bytes v) n after → answered v.number after ≡ total_answer v out
  unfolding total_answer
  total_whole h p = room 28 v.number (total_bytes v) out h (total_length v) p

-- o is what the code found at two states, as they are read back, by a definition f
pub total_found : (f : Asked → Asked → TotalOut) {p q r s : Asked} (out : List ℕ) {o : TotalOut} {x : Answer} → x ≡ total_answer o out → o ≡ f p r → p ≡ q → r ≡ s → x ≡ total_answer (f q s) out
total_found f out e g h k = e ∙ ap (λ (o : TotalOut). total_answer o out) g ∙ (λ i. total_answer (f (h i) (k i)) out)
