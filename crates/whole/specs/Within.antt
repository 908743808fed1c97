-- The limits of whole numbers, ±(2⁶² − 1).
use Rattle.std.specs.Prelude.{ℕ, ◌≤◌, Bool, ℤ, nat_le, unsigned_abs, Option, Some, None}
use Rattle.whole.specs.Cases.{if}

-- 2⁶² − 1
abbrev pub limit : ℕ
limit = 4611686018427387903

pub record Small (z : ℤ) : Type 0 where
  pub small : unsigned_abs z ≤ limit

-- z lies within the limits
unfoldable pub small : ℤ → Bool
small z = nat_le (unsigned_abs z) limit

-- z where it lies within the limits
unfoldable pub limited : ℤ → Option ℤ
limited z = if (small z) (Some z) None
