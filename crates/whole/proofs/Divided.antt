-- A test divided: its divisor fits, and each number's part.
use Rattle.std.proofs.Common.{◌≡◌, ℕ, zero, suc, ◌≤◌, ℤ, pos, ap, ◌∙◌, ap₂, arith}
use lib.Signed.{quot_z}
use Rattle.whole.specs.Divisor.{at_least_one}
use Rattle.whole.specs.Magnitude.{abs_quot}
use Rattle.whole.specs.Within.{limit, Small}
use Rattle.whole.proofs.Signed.{R, small_back}

pub least_small : (g : ℕ) → g ≤ limit → at_least_one g ≤ limit
unfolding at_least_one
least_small zero h = omega arith
least_small (suc g) h = h

-- a quotient as it is read back
pub part : (z : ℤ) → Small z → (g h : ℕ) → g ≡ h → (q : ℤ) → q ≡ quot_z (R z) (pos g) → R q ≡ quot_z z (pos h)
part z s g h m q e =
    let k : q ≡ quot_z z (pos h) = e ∙ ap₂ (λ (y : ℤ) (n : ℕ). quot_z y (pos n)) (small_back z s) m in
    ap R k ∙ small_back (quot_z z (pos h)) (record { small = omega (arith, s.small, abs_quot z h) })
