-- Two's complement of 32 bits.
use mathlib.Core.Path.{◌≡◌, refl, ap}
use mathlib.Core.Bool.{Bool, true, false}
use Prim.Native.Nat.{ℕ, suc, ◌-◌, ◌≤◌}
use native.Mathlib.Omega.{arith}
use borrow.Author.Tests.{ltb-true, ltb-false}
use lib.Dec.{ltb}
use lib.IntN.{pos, negsuc, nat_abs}
use mir.Syntax.{w32}
use mir.Val.{to_z, sel}
use Rattle.whole.specs.Cases.{if}
use Rattle.whole.specs.Within.{Small}
use Rattle.theory.specs.Command.{signed}

-- the library's two's complement is document 01's
pub as_signed : (n : ℕ) → to_z w32 n ≡ signed n
unfolding signed
as_signed n = go (ltb n 2147483648)
  where
    go : (b : Bool) → sel b (pos n) (negsuc (4294967296 - suc n)) ≡ if b (pos n) (negsuc (4294967295 - n))
    go true = refl
    go false = ap negsuc (omega arith)

-- a number of 32 bits, whatever the bytes are
pub signed_size : (n : ℕ) → nat_abs (signed n) ≤ 2147483648
unfolding signed
signed_size n = go (ltb n 2147483648) refl
  where
    go : (b : Bool) → ltb n 2147483648 ≡ b → nat_abs (if b (pos n) (negsuc (4294967295 - n))) ≤ 2147483648
    go true e = omega (arith, ltb-true n 2147483648 e)
    go false e = omega (arith, ltb-false n 2147483648 e)

pub signed_small : (n : ℕ) → Small (signed n)
signed_small n = record { small = omega (arith, signed_size n) }
