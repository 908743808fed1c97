-- Signed numbers at 64 bits: what a test or an operation reads back from the bits, and bounds by magnitude.
use Rattle.std.proofs.Common.{◌≡◌, ℕ, zero, suc, ◌/◌, ◌^◌, ◌<◌, ◌≤◌, true, false, ℤ, pos, negsuc, ◌+ℤ◌, ◌-ℤ◌, neg_ℤ, nat_abs, sym, refl, ap, ◌∙◌, subst, ap₂, not-suc-le-zero, div-le_self, arith, w32, w64, SFits, to_z, of_z, ltb-true}
use lib.IntN.{+ℤ_one, +ℤ_idl, neg_ℤ-neg_ℤ}
use lib.Signed.{quot_z, mag, lt_z}
use mir.ValLaws.{to_z-of_z}
use Rattle.whole.specs.Magnitude.{abs_neg}
use Rattle.whole.specs.Within.{Small}

-- one more than a negative number
pub up : (n : ℕ) → negsuc n +ℤ pos 1 ≡ neg_ℤ (pos n)
up zero = +ℤ_one (negsuc zero)
up (suc n) = +ℤ_one (negsuc (suc n))

-- a magnitude at most 2⁶³ − 1 fits
pub by_abs : (z : ℤ) → nat_abs z < 2 ^ 63 → SFits w64 z
by_abs (pos n) h = record { sfits = h }
by_abs (negsuc n) h = record { sfits = omega arith }

-- what is read back from the bits
abbrev pub R : ℤ → ℤ
R z = to_z w64 (of_z w64 z)

pub back : (z : ℤ) → SFits w64 z → R z ≡ z
back z f = to_z-of_z w64 z f

-- a word below 2⁶³ reads as itself
pub plain : (n : ℕ) → n < 2 ^ 63 → to_z w64 n ≡ pos n
plain n h = back (pos n) (record { sfits = h })

-- a word of 32 bits, as it is read back and widened
abbrev pub R32 : ℤ → ℤ
R32 z = to_z w32 (of_z w32 z)

pub back32 : (z : ℤ) → SFits w32 z → R32 z ≡ z
back32 z f = to_z-of_z w32 z f

pub widens : (z : ℤ) → SFits w32 z → SFits w64 (R32 z)
widens z f = rw (back32 z f) (record { sfits = omega (arith, f.sfits) })

-- a number within the limits
pub small_fits : (z : ℤ) → Small z → SFits w64 z
small_fits z h = by_abs z (omega (arith, h.small))

pub small_back : (z : ℤ) → Small z → R z ≡ z
small_back z h = back z (small_fits z h)

-- -(z + 1) of a negative z, step by step
pub record Down (z : ℤ) : Type 0 where
  pub n : ℕ
  pub small : n < 2 ^ 63
  pub is : z ≡ negsuc n
  pub fits₁ : SFits w64 (R z +ℤ pos 1)
  pub fits₂ : SFits w64 (pos 0 -ℤ R (R z +ℤ pos 1))
  pub reads : R (pos 0 -ℤ R (R z +ℤ pos 1)) ≡ pos n

pub negated : (z : ℤ) → SFits w64 z → lt_z (R z) (pos 0) ≡ true → Down z
negated z f t = go z f (rw (back z f) at t)
  where
    go : (z : ℤ) → SFits w64 z → lt_z z (pos 0) ≡ true → Down z
    go (pos n) f t = absurd (not-suc-le-zero (ltb-true n 0 t))
    go (negsuc n) f t =
        let r : R (negsuc n) ≡ negsuc n = back (negsuc n) f in
        let s₁ : SFits w64 (neg_ℤ (pos n)) = by_abs (neg_ℤ (pos n)) (rw (abs_neg (pos n)) f.sfits) in
        let q₁ : R (negsuc n) +ℤ pos 1 ≡ neg_ℤ (pos n) = ap (λ (k : ℤ). k +ℤ pos 1) r ∙ up n in
        let q₂ : R (R (negsuc n) +ℤ pos 1) ≡ neg_ℤ (pos n) = ap R q₁ ∙ back (neg_ℤ (pos n)) s₁ in
        let q₃ : pos 0 -ℤ R (R (negsuc n) +ℤ pos 1) ≡ pos n = ap (λ (k : ℤ). pos 0 -ℤ k) q₂ ∙ (+ℤ_idl (neg_ℤ (neg_ℤ (pos n))) ∙ neg_ℤ-neg_ℤ (pos n)) in
        let s₃ : SFits w64 (pos n) = record { sfits = f.sfits } in
        record {
          n = n;
          small = f.sfits;
          is = refl;
          fits₁ = subst (SFits w64) (sym q₁) s₁;
          fits₂ = subst (SFits w64) (sym q₃) s₃;
          reads = ap R q₃ ∙ back (pos n) s₃;
        }

-- a test that says it is not negative
pub not_negative : (z : ℤ) → SFits w64 z → lt_z (R z) (pos 0) ≡ false → (n : ℕ) × (n < 2 ^ 63) × (z ≡ pos n) × (R z ≡ pos n)
not_negative z f t = go z f (rw (back z f) at t)
  where
    go : (z : ℤ) → SFits w64 z → lt_z z (pos 0) ≡ false → (n : ℕ) × (n < 2 ^ 63) × (z ≡ pos n) × (R z ≡ pos n)
    go (pos n) f t = (n, f.sfits, refl, back (pos n) f)
    go (negsuc n) f t = absurd (let z : ◌≡◌ {A = ℕ} 0 1 = cc in omega arith)

-- what a callee says of the magnitude that it was passed
pub abs_back : (z : ℤ) {n : ℕ} → SFits w64 z → n ≡ nat_abs (R z) → n ≡ nat_abs z
abs_back z f e = e ∙ ap nat_abs (back z f)

pub quot_mag : (a : ℤ) (g : ℕ) → mag (quot_z a (pos g)) ≤ mag a
quot_mag (pos a) g = div-le_self a g
quot_mag (negsuc a) g = go (suc a / g) (div-le_self (suc a) g)
  where
    go : (k : ℕ) → k ≤ suc a → mag (neg_ℤ (pos k)) ≤ a
    go zero h = omega arith
    go (suc k) h = omega arith

module _ (a : ℤ) (g : ℕ) (fa : SFits w64 a) (h : (0 < g) × (g ≤ 4611686018427387903)) where
  divisor : to_z w64 g ≡ pos g
  divisor = back (pos g) (record { sfits = omega arith })

  pub quot_fits : SFits w64 (quot_z (R a) (to_z w64 g))
  quot_fits = rw (back a fa, divisor) (record { sfits = let k = quot_mag a g in let m = fa.sfits in omega arith })

  pub quot_is : R (quot_z (R a) (to_z w64 g)) ≡ quot_z a (pos g)
  quot_is = back (quot_z (R a) (to_z w64 g)) quot_fits ∙ ap₂ quot_z (back a fa) divisor
