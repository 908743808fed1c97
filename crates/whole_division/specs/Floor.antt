-- "rounded downward": a whole number divided by another, also below zero.
use Rattle.std.specs.Prelude.{◌≡◌, ℕ, ◌*◌, ◌/◌, ◌≤◌, ℤ, pos, negsuc, nat_abs}
use Rattle.std.proofs.Common.{ap, div-le_self, div-one, arith}
use Rattle.std.proofs.Math.Nat.{div-div-eq-div-mul}

-- the largest whole number that is at most z ÷ d: of −1 ÷ 2 it is −1
unfoldable pub floor_by : ℤ → ℕ → ℤ
floor_by (pos a) d = pos (a / d)
floor_by (negsuc a) d = negsuc (a / d)

-- ---- laws

-- twice is once by the product
pub floor_twice : (z : ℤ) (a b : ℕ) → floor_by (floor_by z a) b ≡ floor_by z (a * b)
unfolding floor_by
floor_twice (pos n) a b = ap pos (div-div-eq-div-mul n a b)
floor_twice (negsuc n) a b = ap negsuc (div-div-eq-div-mul n a b)

pub floor_one : (z : ℤ) → floor_by z 1 ≡ z
unfolding floor_by
floor_one (pos n) = ap pos (div-one n)
floor_one (negsuc n) = ap negsuc (div-one n)

-- it is no larger than what is divided
pub floor_abs : (z : ℤ) (d : ℕ) → nat_abs (floor_by z d) ≤ nat_abs z
unfolding floor_by
floor_abs (pos n) d = div-le_self n d
floor_abs (negsuc n) d = omega (arith, div-le_self n d)
