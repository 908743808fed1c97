-- The magnitude of sums, products and quotients.
use Rattle.std.specs.Prelude.{◌≡◌, ℕ, zero, suc, ◌+◌, ◌*◌, ◌/◌, ◌≤◌, Bool, true, false, ℤ, pos, negsuc, ◌+ℤ◌, ◌-ℤ◌, ◌*ℤ◌, neg_ℤ, int_div, nat_lt, unsigned_abs, refl}
use Rattle.std.proofs.Common.{ap, le_refl, div-le_self, arith, ltb-true}
use Rattle.std.proofs.Math.IntN.{sub_ℕ}

abs_neg_pos : (n : ℕ) → unsigned_abs (neg_ℤ (pos n)) ≡ n
abs_neg_pos zero = refl
abs_neg_pos (suc n) = refl

-- of a negation
pub abs_neg : (z : ℤ) → unsigned_abs (neg_ℤ z) ≡ unsigned_abs z
abs_neg (pos n) = abs_neg_pos n
abs_neg (negsuc n) = refl

subℕ_abs : (a b : ℕ) → unsigned_abs (sub_ℕ a b) ≤ a + b
subℕ_abs a b = go (nat_lt a b) refl
  where
    go : (t : Bool) → nat_lt a b ≡ t → unsigned_abs (sub_ℕ a b) ≤ a + b
    go true e = let h = ltb-true a b e in rw e (omega arith)
    go false e = rw e (omega arith)

-- of a sum and of a difference
pub abs_add : (a b : ℤ) → unsigned_abs (a +ℤ b) ≤ unsigned_abs a + unsigned_abs b
abs_add (pos a) (pos b) = le_refl (a + b)
abs_add (pos a) (negsuc b) = subℕ_abs a (suc b)
abs_add (negsuc a) (pos b) = let h = subℕ_abs b (suc a) in omega arith
abs_add (negsuc a) (negsuc b) = omega arith

pub abs_sub : (a b : ℤ) → unsigned_abs (a -ℤ b) ≤ unsigned_abs a + unsigned_abs b
abs_sub a b = omega (arith, abs_add a (neg_ℤ b), abs_neg b)

-- of a product
pub abs_mul : (a b : ℤ) → unsigned_abs (a *ℤ b) ≡ unsigned_abs a * unsigned_abs b
abs_mul (pos a) (pos b) = refl
abs_mul (pos a) (negsuc b) = abs_neg_pos (a * suc b)
abs_mul (negsuc a) (pos b) = abs_neg_pos (suc a * b)
abs_mul (negsuc a) (negsuc b) = refl

-- only 0 has none
pub abs_zero : (z : ℤ) → unsigned_abs z ≡ 0 → z ≡ pos 0
abs_zero (pos n) e = ap pos e
abs_zero (negsuc n) e = absurd (omega arith)

-- a quotient by a positive number is no larger
pub abs_quot : (a : ℤ) (g : ℕ) → unsigned_abs (int_div a (pos g)) ≤ unsigned_abs a
abs_quot (pos a) g = div-le_self a g
abs_quot (negsuc a) g = rw (abs_neg_pos (suc a / g)) (div-le_self (suc a) g)
