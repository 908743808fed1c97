-- What the code's tests and casts of a word say of its number.
use mathlib.Core.Path.{◌≡◌, refl, sym, ap, ap₂, ◌∙◌, subst}
use mathlib.Core.Bool.{Bool, true, false}
use Prim.Native.Nat.{ℕ, ◌<◌, ◌^◌}
use native.Mathlib.Omega.{arith}
use lib.Dec.{T}
use lib.IntN.{ℤ, pos, negsuc, nat_abs}
use lib.Signed.{non_neg, mag, lt_z}
use mir.Syntax.{w64}
use mir.Val.{SFits, Fits, to_z, of_z}
use mir.ValLaws.{to_z-of_z}
use Rattle.table.specs.Table.{eq_ℤ}
use Rattle.table.proofs.Words.{R, back, same_bits}
use Rattle.table.proofs.Look.{eq_ℤ_true, eq_ℤ_refl}

-- a branch word is an index
pub index_fits : (z : ℤ) → SFits w64 z → T (non_neg z) → T (non_neg (to_z w64 (of_z w64 z))) × Fits w64 (nat_abs (to_z w64 (of_z w64 z)))
index_fits z f t = rw (to_z-of_z w64 z f) (t, go z f t)
  where
    go : (z : ℤ) → SFits w64 z → T (non_neg z) → Fits w64 (nat_abs z)
    go (pos n) f t = record { fits = let q = f.sfits in omega arith }
    go (negsuc n) f t = absurd t

-- the code's test of a kind k
pub kind_yes : (k : ℕ) → k < 2 ^ 63 → (z : ℤ) → mag z < 2 ^ 63 → of_z w64 z ≡ of_z w64 (pos k) → eq_ℤ z (pos k) ≡ true
kind_yes k h z f e = ap (λ (x : ℤ). eq_ℤ x (pos k)) (same_bits z (pos k) f h e) ∙ eq_ℤ_refl (pos k)

pub kind_no : (k : ℕ) (z : ℤ) → (of_z w64 z ≡ of_z w64 (pos k) → ⊥) → eq_ℤ z (pos k) ≡ false
kind_no k z n = go (eq_ℤ z (pos k)) refl
  where
    go : (b : Bool) → eq_ℤ z (pos k) ≡ b → eq_ℤ z (pos k) ≡ false
    go true e = absurd (n (ap (of_z w64) (eq_ℤ_true z (pos k) e)))
    go false e = e

pub nat_back : (z : ℤ) → mag z < 2 ^ 63 → T (non_neg z) → T (non_neg (R z))
nat_back z f t = subst (λ (k : ℤ). T (non_neg k)) (sym (back z f)) t

pub abs_of : (z : ℤ) {n : ℕ} → mag z < 2 ^ 63 → n ≡ nat_abs (R z) → n ≡ nat_abs z
abs_of z f e = e ∙ ap nat_abs (back z f)

pub lt_of : (a b : ℤ) {t : Bool} → mag a < 2 ^ 63 → mag b < 2 ^ 63 → lt_z (R a) (R b) ≡ t → lt_z a b ≡ t
lt_of a b fa fb e = sym (ap₂ lt_z (back a fa) (back b fb)) ∙ e
