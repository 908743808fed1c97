-- Two's complement of 32 bits, as a cast reads it.
use mathlib.Core.Path.{◌≡◌, refl, ap, ◌∙◌}
use mathlib.Core.Bool.{Bool, true, false}
use Prim.Native.Nat.{ℕ, suc, ◌-◌, ◌<◌}
use native.Mathlib.Omega.{arith}
use borrow.Author.Tests.{ltb-true, ltb-false}
use lib.Dec.{ltb}
use lib.IntN.{pos, negsuc}
use mir.Syntax.{w32}
use mir.Val.{to_z}
use mir.ValLaws.{to_z_pos, to_z-neg}
use Rattle.whole.specs.Cases.{if}
use Rattle.theory.specs.Command.{signed}

pub cast_is : (n : ℕ) → n < 4294967296 → to_z w32 n ≡ signed n
unfolding signed
cast_is n h = go (ltb n 2147483648) refl
  where
    go : (b : Bool) → ltb n 2147483648 ≡ b → to_z w32 n ≡ if b (pos n) (negsuc (4294967295 - n))
    go true e = to_z_pos w32 n (ltb-true n 2147483648 e)
    go false e =
        let l = ltb-false n 2147483648 e in
        ap (to_z w32) (let q : n ≡ 4294967296 - suc (4294967295 - n) = omega arith in q) ∙ to_z-neg w32 (4294967295 - n) (omega arith)
