-- The greatest common divisor, and its laws: it divides each number, each common divisor divides it, and division by it is exact.
use Rattle.std.specs.Prelude.{◌≡◌, ℕ, zero, suc, ◌+◌, ◌-◌, ◌*◌, ◌/◌, ◌%◌, ◌<◌, ◌≤◌, List, [], ◌∷◌, ℤ, pos, negsuc, ◌*ℤ◌, neg_ℤ, int_div, unsigned_abs, refl}
use Rattle.std.proofs.Common.{sym, ap, ◌∙◌, ⊎_elim, arith}
use mathlib.Core.List.Memᴰ
use mathlib.Core.List.{Memᴰ}
use Rattle.std.proofs.Math.Nat as N
use Rattle.whole.specs.Int.{mul_neg}

-- Euclid's rule, with at most as many turns as the first argument says
unfoldable pub gcd_by : ℕ → ℕ → ℕ → ℕ
gcd_by zero a b = a
gcd_by (suc f) a zero = a
gcd_by (suc f) a (suc b) = gcd_by f (suc b) (a % suc b)

unfoldable pub gcd_of : ℕ → ℕ → ℕ
gcd_of a b = gcd_by b a b

-- of the magnitudes of some numbers
unfoldable pub gcd_all : List ℤ → ℕ
gcd_all [] = 0
gcd_all (z ∷ l) = gcd_of (unsigned_abs z) (gcd_all l)

-- what a test is divided by: 1 where all its numbers are 0
unfoldable pub at_least_one : ℕ → ℕ
at_least_one zero = 1
at_least_one (suc g) = suc g

pub record Divides (g a : ℕ) : Type 0 where
  pub times : ℕ
  pub is : a ≡ times * g

zero_multiple : (g : ℕ) → Divides g 0
zero_multiple g = record { times = 0; is = omega arith }

divides_self : (g : ℕ) → Divides g g
divides_self g = record { times = 1; is = omega arith }

combine : (g a b r k q t : ℕ) → a ≡ k * b + r → b ≡ q * g → r ≡ t * g → a ≡ (k * q + t) * g
combine g a b r k q t e p s = e ∙ rw (p, s) (omega arith)

divides_sum : (g a b : ℕ) → Divides g b → Divides g (a % b) → Divides g a
divides_sum g a b d c = record {
  times = (a / b) * d.times + c.times;
  is = combine g a b (a % b) (a / b) d.times c.times (sym (N.div-add-mod' a b)) d.is c.is;
}

pub divides_trans : (g b a : ℕ) → Divides g b → Divides b a → Divides g a
divides_trans g b a d c = record { times = c.times * d.times; is = combine g a b 0 c.times d.times 0 (omega (arith, c.is)) d.is (omega arith) ∙ omega arith }

turns_divides : (k a b : ℕ) → b ≤ k → Divides (gcd_by k a b) a × Divides (gcd_by k a b) b
unfolding gcd_by
turns_divides zero a zero h = (divides_self a, zero_multiple a)
turns_divides zero a (suc b) h = absurd (omega arith)
turns_divides (suc k) a zero h = (divides_self a, zero_multiple a)
turns_divides (suc k) a (suc b) h =
    let d = turns_divides k (suc b) (a % suc b) (omega (arith, N.mod-lt a {m = suc b} (omega arith))) in
    (divides_sum _ a (suc b) d.0 d.1, d.0)

pub gcd_left : (a b : ℕ) → Divides (gcd_of a b) a
unfolding gcd_of
gcd_left a b = (turns_divides b a b (N.le_refl b)).0

pub gcd_right : (a b : ℕ) → Divides (gcd_of a b) b
unfolding gcd_of
gcd_right a b = (turns_divides b a b (N.le_refl b)).1

-- ---- it is the greatest: what divides both divides it

rest_multiple : (g a b r k t u : ℕ) → a ≡ k * b + r → a ≡ t * g → b ≡ u * g → r ≡ (t - k * u) * g
rest_multiple g a b r k t u e p q = sym (N.mul_comm (t - k * u) g ∙ N.mul-sub g t (k * u) ∙ rest (g * t) (k * b) r (g * (k * u)) (N.mul_comm g t ∙ sym p ∙ e) (rw q (omega arith)))
  where
    rest : (x y r z : ℕ) → x ≡ y + r → y ≡ z → x - z ≡ r
    rest x y r z e d = omega arith

divides_rest : (g a b : ℕ) → Divides g a → Divides g b → Divides g (a % b)
divides_rest g a b d c = record {
  times = d.times - (a / b) * c.times;
  is = rest_multiple g a b (a % b) (a / b) d.times c.times (sym (N.div-add-mod' a b)) d.is c.is;
}

turns_greatest : (g k a b : ℕ) → Divides g a → Divides g b → Divides g (gcd_by k a b)
unfolding gcd_by
turns_greatest g zero a b d c = d
turns_greatest g (suc k) a zero d c = d
turns_greatest g (suc k) a (suc b) d c = turns_greatest g k (suc b) (a % suc b) c (divides_rest g a (suc b) d c)

-- "greatest common divisor": each common divisor divides it
pub gcd_greatest : (g a b : ℕ) → Divides g a → Divides g b → Divides g (gcd_of a b)
unfolding gcd_of
gcd_greatest g a b d c = turns_greatest g b a b d c

-- .. and so of a list
pub gcd_all_greatest : (g : ℕ) (l : List ℤ) → ((z : ℤ) → Memᴰ z l → Divides g (unsigned_abs z)) → Divides g (gcd_all l)
unfolding gcd_all
gcd_all_greatest g [] f = zero_multiple g
gcd_all_greatest g (z ∷ l) f = gcd_greatest g (unsigned_abs z) (gcd_all l) (f z (Memᴰ.head refl)) (gcd_all_greatest g l (λ y m. f y (Memᴰ.tail m)))

-- .. and it divides each of them
pub gcd_all_divides : (l : List ℤ) (z : ℤ) → Memᴰ z l → Divides (gcd_all l) (unsigned_abs z)
unfolding gcd_all
gcd_all_divides [] z m = absurd (Memᴰ.not-nil m)
gcd_all_divides (y ∷ l) z m = ⊎_elim
    (λ i. rw i (gcd_left (unsigned_abs y) (gcd_all l)))
    (λ i. divides_trans _ (gcd_all l) (unsigned_abs z) (gcd_right (unsigned_abs y) (gcd_all l)) (gcd_all_divides l z i))
    (Memᴰ.cases_cons m)

one_divides : (a : ℕ) → Divides 1 a
one_divides a = record { times = a; is = omega arith }

pub least_divides : (g a : ℕ) → Divides g a → Divides (at_least_one g) a
unfolding at_least_one
least_divides zero a d = one_divides a
least_divides (suc g) a d = d

pub least_positive : (g : ℕ) → 0 < at_least_one g
unfolding at_least_one
least_positive zero = omega arith
least_positive (suc g) = omega arith

-- exact division
exact : (a g : ℕ) → 0 < g → Divides g a → a ≡ g * (a / g)
exact a g h d = d.is ∙ omega (arith, ap (λ (q : ℕ). g * q) (ap (λ (x : ℕ). x / g) d.is ∙ N.mul-div_cancel d.times h))

pub quot_exact : (z : ℤ) (g : ℕ) → 0 < g → Divides g (unsigned_abs z) → z ≡ pos g *ℤ int_div z (pos g)
quot_exact (pos a) g h d = ap pos (exact a g h d)
quot_exact (negsuc a) g h d = ap (λ (n : ℕ). neg_ℤ (pos n)) (exact (suc a) g h d) ∙ sym (mul_neg (pos g) (pos (suc a / g)))
