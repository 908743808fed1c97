-- Multipliers, with the sign of their side.
use mathlib.Core.Path.{◌≡◌, sym, ap, ◌∙◌}
use mathlib.Core.Bool.{Bool, true, false}
use Prim.Native.Nat.{zero, suc}
use native.Mathlib.Omega.{arith}
use lib.Dec.{T}
use lib.IntN.{ℤ, pos, negsuc, neg_ℤ, ◌-ℤ◌, +ℤ_idl}
use lib.Signed.{le_z}
use mir.Syntax.{w32}
use mir.Val.{SFits}
use Rattle.whole.specs.Cases.{if}
use Rattle.whole.specs.Int.{sub_neg}
use Rattle.whole.proofs.Signed.{R32, back32}

minus : (k : ℤ) → SFits w32 k → pos 0 -ℤ R32 k ≡ neg_ℤ k
minus k f = ap (λ (z : ℤ). pos 0 -ℤ z) (back32 k f) ∙ (sub_neg (pos 0) k ∙ +ℤ_idl (neg_ℤ k))

neg_fits : (k : ℤ) → T (le_z (pos 0) k) → SFits w32 k → SFits w32 (neg_ℤ k)
neg_fits (pos zero) t f = f
neg_fits (pos (suc n)) t f = record { sfits = omega (arith, f.sfits) }
neg_fits (negsuc n) t f = absurd t

pub negated_fits : (k : ℤ) → T (le_z (pos 0) k) → SFits w32 k → SFits w32 (pos 0 -ℤ R32 k)
negated_fits k t f = rw (minus k f) (neg_fits k t f)

pub kept_is : (k : ℤ) (high : Bool) → SFits w32 k → high ≡ true → R32 k ≡ if high k (neg_ℤ k)
kept_is k high f e = back32 k f ∙ sym (ap (λ b. if b k (neg_ℤ k)) e)

pub negated_is : (k : ℤ) (high : Bool) → T (le_z (pos 0) k) → SFits w32 k → high ≡ false → R32 (pos 0 -ℤ R32 k) ≡ if high k (neg_ℤ k)
negated_is k high t f e = back32 (pos 0 -ℤ R32 k) (negated_fits k t f) ∙ (minus k f ∙ sym (ap (λ b. if b k (neg_ℤ k)) e))
