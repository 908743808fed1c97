-- A value's answer: its words, how long it is, and that it is given.
use mathlib.Core.Path.{◌≡◌, ap, ◌∙◌}
use mathlib.Core.List.{List}
use Prim.Native.Nat.{ℕ, ◌≤◌, ◌<◌}
use native.Mathlib.Omega.{arith}
use lib.IntN.{ℤ}
use lib.ListN.{length, length-append}
use mir.Syntax.{w64}
use mir.Val.{SFits, of_z}
use Rattle.whole.proofs.Signed.{R, back}
use Rattle.text_decimal.specs.Put.{PutAt}
use Rattle.text_decimal.proofs.Puts.{then, rename}
use Rattle.theory.specs.Value.{Asked, ValueOut}
use Rattle.c_answers.specs.Answers.{le, pair_bytes, short, Answer, answered}
use Rattle.c_value_answers.specs.ValueAnswer.{word_bytes, value_bytes, value_answer}
use Rattle.c_answers.proofs.Bytes.{le_length, pair_length}
use Rattle.c_answers.proofs.Answered.{no_room, room}

pub words_length : (low : ℕ) (high : ℤ) → length (word_bytes low high) ≡ 16
unfolding word_bytes
words_length low high = omega (arith, length-append (le 8 low) (le 8 (of_z w64 high)), le_length 8 low, le_length 8 (of_z w64 high))

pub value_length : (v : ValueOut) → length (value_bytes v) ≡ 24
unfolding value_bytes
value_length v =
    let p = pair_bytes v.place v.action in
    let w = word_bytes v.numerator.low v.numerator.high in
    omega (arith, length-append p w, pair_length v.place v.action, words_length v.numerator.low v.numerator.high)

-- ---- one part behind the other

module _ {l l₁ l₂ : List ℕ} {n m : ℕ} where
  -- x is what the high word's bits came to
  pub words_put : {at x : ℕ} (low : ℕ) (high : ℤ) → at ≤ length l → SFits w64 high → x ≡ of_z w64 (R high) → PutAt l at (le 8 low) n l₁ → PutAt l₁ n (le 8 x) m l₂ → PutAt l at (word_bytes low high) m l₂
  unfolding word_bytes
  words_put low high h f e p q = then h p (rename (ap (le 8) (e ∙ ap (of_z w64) (back high f))) q)

  pub value_put : (v : ValueOut) → SFits w64 v.numerator.high → PutAt l 0 (pair_bytes v.place v.action) n l₁
      → PutAt l₁ n (word_bytes v.numerator.low (R v.numerator.high)) m l₂ → PutAt l 0 (value_bytes v) m l₂
  unfolding value_bytes
  value_put v f p q = then (omega arith) p (rename (ap (word_bytes v.numerator.low) (back v.numerator.high f)) q)

-- ---- the answer

module _ (v : ValueOut) (out : List ℕ) where
  pub value_short : {r : ℕ} → length out < 24 → r ≡ short v.number → answered r out ≡ value_answer v out
  unfolding value_answer
  value_short h e = no_room 24 v.number (value_bytes v) out h e

  pub value_whole : {after : List ℕ} {n : ℕ} → 24 ≤ length out → PutAt out 0 (value_bytes v) n after → answered v.number after ≡ value_answer v out
  unfolding value_answer
  value_whole h p = room 24 v.number (value_bytes v) out h (value_length v) p

-- o is what the code found at the state p, as it is read back, by a definition f
pub value_found : (f : Asked → ValueOut) {p q : Asked} (out : List ℕ) {o : ValueOut} {x : Answer} → x ≡ value_answer o out → o ≡ f p → p ≡ q → x ≡ value_answer (f q) out
value_found f out e g h = e ∙ ap (λ (o : ValueOut). value_answer o out) g ∙ ap (λ (q : Asked). value_answer (f q) out) h
