-- Euclid's rule: a step, and that the bound on the steps does not matter.
use Rattle.std.proofs.Common.{max, ◌≡◌, ℕ, zero, suc, ◌%◌, ◌<◌, ◌≤◌, sym, refl, ap, ◌∙◌, suc-le-suc, zero-le, le_trans, le_of_lt, mod-lt, arith}
use native.Mathlib.Nat.{zero-mod}
use Rattle.whole.specs.Divisor.{gcd_by, gcd_of, at_least_one}

-- enough steps are enough
fuel : (f g a b : ℕ) → b ≤ f → b ≤ g → gcd_by f a b ≡ gcd_by g a b
unfolding gcd_by
fuel zero zero a b p q = refl
fuel zero (suc g) a zero p q = refl
fuel zero (suc g) a (suc b) p q = absurd (omega arith)
fuel (suc f) zero a zero p q = refl
fuel (suc f) zero a (suc b) p q = absurd (omega arith)
fuel (suc f) (suc g) a zero p q = refl
fuel (suc f) (suc g) a (suc b) p q =
    let h : a % suc b < suc b = mod-lt a (suc-le-suc zero-le) in
    fuel f g (suc b) (a % suc b) (omega arith) (omega arith)

-- no larger than the two numbers
turns_small : (n f a b : ℕ) → a ≤ n → b ≤ n → gcd_by f a b ≤ n
unfolding gcd_by
turns_small n zero a b p q = p
turns_small n (suc f) a zero p q = p
turns_small n (suc f) a (suc b) p q = turns_small n f (suc b) (a % suc b) q (le_trans (le_of_lt (mod-lt a {m = suc b} (suc-le-suc zero-le))) q)

pub gcd_small : (n a b : ℕ) → a ≤ n → b ≤ n → gcd_of a b ≤ n
unfolding gcd_of
gcd_small n a b p q = turns_small n b a b p q

pub gcd_zero : (a b : ℕ) → b ≡ 0 → a ≡ gcd_of a b
unfolding gcd_of gcd_by
gcd_zero a zero e = refl
gcd_zero a (suc b) e = absurd (omega arith)

pub gcd_step : (a b : ℕ) → (b ≡ 0 → ⊥) → gcd_of b (a % b) ≡ gcd_of a b
unfolding gcd_of gcd_by
gcd_step a zero n = absurd (n refl)
gcd_step a (suc b) n =
    let h : a % suc b < suc b = mod-lt a (suc-le-suc zero-le) in
    fuel (a % suc b) b (suc b) (a % suc b) (omega arith) (omega arith)

-- 0 is divided by every number
pub zero_gcd : (a b : ℕ) → a ≡ 0 → b ≡ gcd_of a b
unfolding gcd_of gcd_by
zero_gcd a zero e = sym e
zero_gcd a (suc b) e = gcd_zero (suc b) (a % suc b) (ap (λ (n : ℕ). n % suc b) e ∙ zero-mod (suc b)) ∙ gcd_step a (suc b) (λ (q : suc b ≡ 0). omega arith)

pub least_is : (g : ℕ) → max g 1 ≡ at_least_one g
unfolding at_least_one
least_is zero = omega arith
least_is (suc g) = omega arith
