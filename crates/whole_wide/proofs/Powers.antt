-- Powers, one factor at a time.
use Rattle.std.specs.Prelude.{None}
use mathlib.Core.Path.{◌≡◌, sym, ap, ap₂, ◌∙◌, subst}
use Prim.Native.Nat.{ℕ, ◌+◌, ◌-◌, ◌^◌, ◌<◌, ◌≤◌}
use native.Mathlib.Omega.{arith}
use native.Mathlib.Nat.{pow-zero, pow-suc, one-le-pow}
use native.Mathlib.Numerals.{add-one}
use lib.Pow.{pow-add}
use lib.IntN.{ℤ, pos, ◌+ℤ◌, ◌*ℤ◌}
use lib.Signed.{mag}
use mir.Syntax.{w64}
use mir.Val.{SFits}
use Rattle.whole.specs.Int.{atom, diff, mul_assoc, distrib_r}
use Rattle.whole.specs.declared.Numerator.{Numerator}
use Rattle.whole.specs.Numerator.{word, number}
use Rattle.whole_wide.specs.Wide.{outside_from, beyond_from, fitted}
use Rattle.whole_wide.proofs.Judged.{fitted_out, number_within}
use Rattle.whole_wide.proofs.Signs.{times_size, far}

-- no factor yet
pub times_one : (z : ℤ) (w : ℕ) → z ≡ z *ℤ pos (w ^ 0)
times_one z w = rw (pow-zero w) (one z)
  where
    one : (z : ℤ) → z ≡ z *ℤ pos 1
    one z = rw (← atom z) (simp diff (omega arith))

-- one more
pub times_more : (z : ℤ) (w i : ℕ) → z *ℤ pos (w ^ i) *ℤ pos w ≡ z *ℤ pos (w ^ (i + 1))
times_more z w i = mul_assoc z (pos (w ^ i)) (pos w) ∙ ap (λ (n : ℕ). z *ℤ pos n) (sym (pow-suc w i) ∙ ap (λ (j : ℕ). w ^ j) (sym (add-one i)))

power_positive : (w k : ℕ) → 0 < w → 0 < w ^ k
power_positive w k h = one-le-pow k w h

-- a size that is reached is kept by the factors that are left
pub stays_large : (b : ℕ) (z : ℤ) (w i k : ℕ) → 0 < w → i < k → b ≤ mag (z *ℤ pos (w ^ (i + 1))) → b ≤ mag (z *ℤ pos (w ^ k))
stays_large b z w i k p h l =
    let e : i + 1 + (k - (i + 1)) ≡ k = omega arith in
    let s = times_size (z *ℤ pos (w ^ (i + 1))) (w ^ (k - (i + 1))) (power_positive w (k - (i + 1)) p) in
    let q : z *ℤ pos (w ^ (i + 1)) *ℤ pos (w ^ (k - (i + 1))) ≡ z *ℤ pos (w ^ k) =
    mul_assoc z (pos (w ^ (i + 1))) (pos (w ^ (k - (i + 1)))) ∙ ap (λ (n : ℕ). z *ℤ pos n) (sym (pow-add w (i + 1) (k - (i + 1))) ∙ ap (λ (j : ℕ). w ^ j) e) in
    omega (arith, l, s, ap mag q)

-- ---- the common power

-- W^c × (X × W^k + Y) is X × W^(k + c) + Y × W^c
pub spread : (x y : ℤ) (w k c p : ℕ) → k + c ≡ p → (x *ℤ pos (w ^ k) +ℤ y) *ℤ pos (w ^ c) ≡ x *ℤ pos (w ^ p) +ℤ y *ℤ pos (w ^ c)
spread x y w k c p e = distrib_r (pos (w ^ c)) (x *ℤ pos (w ^ k)) y
    ∙ ap (λ (u : ℤ). u +ℤ y *ℤ pos (w ^ c)) (mul_assoc x (pos (w ^ k)) (pos (w ^ c)) ∙ ap (λ (n : ℕ). x *ℤ pos n) (sym (pow-add w k c) ∙ ap (λ (j : ℕ). w ^ j) e))

abbrev scaled : Numerator → ℕ → ℕ → ℤ
scaled x w k = number x *ℤ pos (w ^ k)

-- X × W^k + Y, of words X and Y, where a step has no result
module _ (x y : Numerator) (w k c : ℕ) (p : 0 < w) (f : SFits w64 y.high) (b : y.low < word) {u : ℤ} (ex : u ≡ number x) where
  -- a summand of 2¹²⁸ leaves the sum outside, as the other lies in two words
  pub summand_out : beyond_from ≤ mag (u *ℤ pos (w ^ k)) → None ≡ fitted ((scaled x w k +ℤ number y) *ℤ pos (w ^ c))
  summand_out h =
      let l = far outside_from (scaled x w k) (number y) (subst (λ (z : ℤ). beyond_from ≤ mag (z *ℤ pos (w ^ k))) ex h) (number_within y f b) in
      sym (fitted_out _ (omega (arith, l, times_size (scaled x w k +ℤ number y) (w ^ c) (power_positive w c p))))

  module _ {v q : ℤ} (ey : v ≡ number y) (ep : q ≡ u *ℤ pos (w ^ k)) where
    sum_is : q +ℤ v ≡ scaled x w k +ℤ number y
    sum_is = ap₂ ◌+ℤ◌ (ep ∙ ap (λ (z : ℤ). z *ℤ pos (w ^ k)) ex) ey

    -- so does a sum of that size
    pub sum_out : beyond_from ≤ mag (q +ℤ v) → None ≡ fitted ((scaled x w k +ℤ number y) *ℤ pos (w ^ c))
    sum_out h =
        let l = subst (λ (z : ℤ). beyond_from ≤ mag z) sum_is h in
        sym (fitted_out _ (omega (arith, l, times_size (scaled x w k +ℤ number y) (w ^ c) (power_positive w c p))))

    module _ {r : ℤ} (es : r ≡ q +ℤ v) where
      -- and the whole
      pub total_out : beyond_from ≤ mag (r *ℤ pos (w ^ c)) → None ≡ fitted ((scaled x w k +ℤ number y) *ℤ pos (w ^ c))
      total_out h =
          let l = subst (λ (z : ℤ). beyond_from ≤ mag (z *ℤ pos (w ^ c))) (es ∙ sum_is) h in
          sym (fitted_out _ (omega (arith, l)))
