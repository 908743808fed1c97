-- Numbers within the limits: the sum, the difference, the product and the power, as the code computes them.
use Rattle.std.specs.Prelude.{Option, Some, None}
use Rattle.std.proofs.Common.{◌≡◌, ℕ, zero, suc, ◌+◌, ◌*◌, ◌/◌, ◌^◌, ◌<◌, ◌≤◌, ℤ, pos, ◌+ℤ◌, ◌-ℤ◌, ◌*ℤ◌, nat_abs, sym, ap, ◌∙◌, ap₂, mul_comm, div-lt_iff_lt-mul, pow-suc, le-div_iff_mul-le, zero-mul, add-one, arith, lit≤, w64, SFits, to_z, of_z}
use native.Mathlib.Nat.{pow-le-pow_right}
use Rattle.whole.specs.Within.{limit, limited, Small}
use Rattle.whole.specs.Magnitude.{abs_add, abs_sub, abs_mul, abs_zero}
use Rattle.whole.specs.WithinLaws.{limited_is, limited_over, limited_gives, limited_lacks}
use Rattle.whole.proofs.Signed.{R, back, plain, by_abs}

module _ (a b : ℤ) (fa : SFits w64 a) (fb : SFits w64 b) where
  -- the sum of two small numbers fits
  pub sum_fits : Small a × Small b → SFits w64 (R a +ℤ R b)
  sum_fits h = rw (back a fa, back b fb) (by_abs (a +ℤ b) (let k = abs_add a b in omega arith))

  -- and so does their difference
  pub difference_fits : Small a × Small b → SFits w64 (R a -ℤ R b)
  difference_fits h = rw (back a fa, back b fb) (by_abs (a -ℤ b) (let k = abs_sub a b in omega arith))

  -- where the magnitudes' product is within the limit
  product_small : (p q : ℕ) → p ≡ nat_abs a → q ≡ nat_abs b → (p ≡ 0 → ⊥) → q ≤ limit / p → nat_abs (a *ℤ b) ≤ limit
  product_small p q ep eq n h =
      let p0 : 0 < p = omega arith in
      let k : q * p ≤ limit = (le-div_iff_mul-le p0).0 h in
      rw (abs_mul a b, ← ep, ← eq, mul_comm p q) k

  pub product_fits : (p q : ℕ) → p ≡ nat_abs a → q ≡ nat_abs b → (p ≡ 0 → ⊥) → q ≤ limit / p → SFits w64 (R a *ℤ R b)
  product_fits p q ep eq n h = rw (back a fa, back b fb) (by_abs (a *ℤ b) (let k = product_small p q ep eq n h in omega arith))

  pub product_is : (p q : ℕ) → p ≡ nat_abs a → q ≡ nat_abs b → (p ≡ 0 → ⊥) → q ≤ limit / p → Some (R (R a *ℤ R b)) ≡ limited (a *ℤ b)
  product_is p q ep eq n h =
      ap Some (back (R a *ℤ R b) (product_fits p q ep eq n h) ∙ ap₂ ◌*ℤ◌ (back a fa) (back b fb)) ∙ sym (limited_is (a *ℤ b) (product_small p q ep eq n h))

  pub product_zero : (p : ℕ) → p ≡ nat_abs a → p ≡ 0 → Some (pos 0) ≡ limited (a *ℤ b)
  product_zero p ep e =
      let z : a *ℤ b ≡ pos 0 = abs_zero (a *ℤ b) (abs_mul a b ∙ (ap (λ (k : ℕ). k * nat_abs b) (sym ep ∙ e) ∙ zero-mul (nat_abs b))) in
      sym (ap limited z ∙ limited_is (pos 0) (lit≤ tt))

  pub product_over : (p q : ℕ) → p ≡ nat_abs a → q ≡ nat_abs b → (p ≡ 0 → ⊥) → limit / p < q → None ≡ limited (a *ℤ b)
  product_over p q ep eq n h =
      let p0 : 0 < p = omega arith in
      let k : limit < q * p = (div-lt_iff_lt-mul p0).0 h in
      sym (limited_over (a *ℤ b) (rw (abs_mul a b, ← ep, ← eq, mul_comm p q) k))

-- a power over the limit has only larger ones after it
pub power_over : (w i e : ℕ) → i < e → limit < w ^ suc i → limit < w ^ e
power_over zero i e h k = absurd (let z = zero_power i in omega arith)
  where
    zero_power : (i : ℕ) → 0 ^ suc i ≡ 0
    zero_power i = pow-suc 0 i ∙ omega arith
power_over (suc w) i e h k = omega (arith, pow-le-pow_right {n = suc w} (omega arith) {i = suc i} {j = e} (omega arith))

-- one turn: p is w to the power i, in a word
module _ (w i p : ℕ) (fw : w < 2 ^ 32) (is : p ≡ w ^ i) (small : p ≤ limit) {u : ℤ} (eu : u ≡ pos w) where
  next : to_z w64 p *ℤ R u ≡ pos (w ^ suc i)
  next = ap₂ ◌*ℤ◌ (plain p (omega arith)) (ap R eu ∙ plain w (omega arith)) ∙ ap pos (ap (λ (k : ℕ). k * w) is ∙ sym (pow-suc w i))

  pub power_next : (o : Option ℤ) (q : ℤ) → o ≡ limited (to_z w64 p *ℤ R u) → o ≡ Some q → (of_z w64 q ≡ w ^ (i + 1)) × (of_z w64 q ≤ limit)
  power_next o q e g =
      let l = limited_gives (pos (w ^ suc i)) q (ap limited (sym next) ∙ sym e ∙ g) in
      (ap (of_z w64) l.0 ∙ ap (λ (k : ℕ). w ^ k) (sym (add-one i)), rw l.0 l.1)

  pub power_stops : (o : Option ℤ) (e : ℕ) → i < e → o ≡ limited (to_z w64 p *ℤ R u) → o ≡ None → None ≡ limited (pos (w ^ e))
  power_stops o e h t g = sym (limited_over (pos (w ^ e)) (power_over w i e h (limited_lacks (pos (w ^ suc i)) (ap limited (sym next) ∙ sym t ∙ g))))

  pub power_ends : (e : ℕ) → i ≡ e → Some (to_z w64 p) ≡ limited (pos (w ^ e))
  power_ends e h =
      let k : p ≡ w ^ e = is ∙ ap (λ (k : ℕ). w ^ k) h in
      ap Some (plain p (omega arith) ∙ ap pos k) ∙ sym (limited_is (pos (w ^ e)) (rw (← k) small))
