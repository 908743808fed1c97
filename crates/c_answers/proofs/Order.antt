-- 17's place in the order.
use mathlib.Core.Path.{◌≡◌, sym, ap}
use mathlib.Core.Bool.{Bool}
use Prim.Native.Nat.{ℕ}
use lib.Dec.{eqb}
use borrow.Author.Tests.{eq-eqb, ne_eqb}
use Rattle.whole.specs.Cases.{if}
use Rattle.theory.specs.Verdict.{or}
use Rattle.c_answers.specs.Answers.{short}

-- by what the three tests say
abbrev by_tests : Bool → Bool → Bool → ℕ → ℕ
by_tests a b c n = if (or a (or b c)) 17 n

pub short_0 : {n : ℕ} → n ≡ 0 → 17 ≡ short n
unfolding short
short_0 {n} e = sym (ap (λ (b : Bool). by_tests b (eqb n 11) (eqb n 12) n) (eq-eqb n 0 e))

pub short_11 : {n : ℕ} → (n ≡ 0 → ⊥) → n ≡ 11 → 17 ≡ short n
unfolding short
short_11 {n} z e = sym (λ i. by_tests (ne_eqb n 0 z i) (eq-eqb n 11 e i) (eqb n 12) n)

pub short_12 : {n : ℕ} → (n ≡ 0 → ⊥) → (n ≡ 11 → ⊥) → n ≡ 12 → 17 ≡ short n
unfolding short
short_12 {n} z o e = sym (λ i. by_tests (ne_eqb n 0 z i) (ne_eqb n 11 o i) (eq-eqb n 12 e i) n)

pub short_other : {n : ℕ} → (n ≡ 0 → ⊥) → (n ≡ 11 → ⊥) → (n ≡ 12 → ⊥) → n ≡ short n
unfolding short
short_other {n} z o t = sym (λ i. by_tests (ne_eqb n 0 z i) (ne_eqb n 11 o i) (ne_eqb n 12 t i) n)
