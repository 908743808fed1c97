-- Two words: the halves' product, the negation, the signs, the carry, the sum of five products, and the sign of the whole.
use Rattle.std.proofs.Common.{◌≡◌, ℕ, zero, suc, ◌+◌, ◌-◌, ◌*◌, ◌/◌, ◌%◌, ◌^◌, ◌<◌, ◌≤◌, true, false, eqb, leb, ℤ, pos, negsuc, ◌+ℤ◌, ◌-ℤ◌, ◌*ℤ◌, neg_ℤ, nat_abs, sym, refl, ap, ◌∙◌, ap₂, mul-le-mul, arith, w32, w64, SFits, to_z, of_z, ltb-false, ltb-true, ne_eqb, le-leb}
use borrow.Author.Tests.{lt-leb}
use lib.IntN.{neg_ℤ-neg_ℤ}
use lib.Signed.{mag, lt_z, le_z}
use Rattle.whole.specs.declared.Numerator.{Numerator}
use Rattle.whole.specs.Cases.{clash}
use Rattle.whole.specs.Int.{atom, diff}
use Rattle.whole.specs.Magnitude.{abs_add, abs_sub, abs_neg}
use Rattle.whole.specs.Numerator.{word, number, words}
use Rattle.whole.specs.NumeratorLaws.{turned, Times, Product, Turned, SumOf, below}
use Rattle.whole.specs.Within.{limit, Small}
use Rattle.whole.proofs.Signed.{R, R32, back, back32, plain, by_abs, small_back}

abbrev half : ℕ
half = 4294967296

-- the product in halves, put together
join : (a b p q l m : ℕ) → p ≡ a * half + b → l ≡ b * q → m ≡ a * q + l / half → m / half * word + (m % half * half + l % half) ≡ p * q
join a b p q l m e f g = omega (arith, ap (λ (k : ℕ). k * q) e)

module _ (p q : ℕ) (h : (p ≤ limit) × (q ≤ 2147483648)) where
  pub low_bound : p % half * q ≤ 9223372034707292160
  low_bound = mul-le-mul {n₁ = p % half} {m₁ = q} {n₂ = 4294967295} {m₂ = 2147483648} (omega arith) h.1

  pub mid_bound : p / half * q ≤ 2305843007066210304
  mid_bound = mul-le-mul {n₁ = p / half} {m₁ = q} {n₂ = 1073741823} {m₂ = 2147483648} (omega arith) h.1

  pub high_bound : (p / half * q + p % half * q / half) / half ≤ 536870912
  high_bound = omega (arith, low_bound, mid_bound)

  pub times_is : Times p q (record { low = (p / half * q + p % half * q / half) % half * half + p % half * q % half; high = to_z w64 ((p / half * q + p % half * q / half) / half) })
  unfolding number
  times_is = rw (plain ((p / half * q + p % half * q / half) / half) (omega (arith, high_bound))) (record {
    is = ap pos (join (p / half) (p % half) p q (p % half * q) (p / half * q + p % half * q / half) (omega arith) refl refl);
    bounded = high_bound;
  })

-- ---- the negation

neg_zero : (h : ℤ) (l : ℕ) → l ≡ 0 → neg_ℤ h *ℤ pos word +ℤ pos 0 ≡ neg_ℤ (h *ℤ pos word +ℤ pos l)
neg_zero h l e = rw (← atom h) (simp diff (omega arith))

neg_low : (h : ℤ) (l : ℕ) → l < word → (neg_ℤ h -ℤ pos 1) *ℤ pos word +ℤ pos (18446744073709551615 - l + 1) ≡ neg_ℤ (h *ℤ pos word +ℤ pos l)
neg_low h l b = rw (← atom h) (simp diff (omega arith))

zero_minus : (h : ℤ) → pos 0 -ℤ h ≡ neg_ℤ h
zero_minus h = rw (← atom h) (simp diff (omega arith))

module _ (x : Numerator) (s : Small x.high) where
  minus : pos 0 -ℤ R x.high ≡ neg_ℤ x.high
  minus = ap (λ (z : ℤ). pos 0 -ℤ z) (small_back x.high s) ∙ zero_minus x.high

  pub minus_fits : SFits w64 (pos 0 -ℤ R x.high)
  minus_fits = rw minus (by_abs (neg_ℤ x.high) (omega (arith, abs_neg x.high, s.small)))

  minus_reads : R (pos 0 -ℤ R x.high) ≡ neg_ℤ x.high
  minus_reads = back _ minus_fits ∙ minus

  less_bound : nat_abs (neg_ℤ x.high -ℤ pos 1) ≤ nat_abs x.high + 1
  less_bound = omega (arith, abs_sub (neg_ℤ x.high) (pos 1), abs_neg x.high)

  pub less_fits : SFits w64 (R (pos 0 -ℤ R x.high) -ℤ pos 1)
  less_fits = rw minus_reads (by_abs (neg_ℤ x.high -ℤ pos 1) (omega (arith, less_bound, s.small)))

  less_reads : R (R (pos 0 -ℤ R x.high) -ℤ pos 1) ≡ neg_ℤ x.high -ℤ pos 1
  less_reads = back _ less_fits ∙ ap (λ (z : ℤ). z -ℤ pos 1) minus_reads

  pub negated_zero : x.low ≡ 0 → Turned (neg_ℤ (number x)) x (record { low = 0; high = R (pos 0 -ℤ R x.high) })
  unfolding number
  negated_zero e = rw minus_reads (record {
    is = neg_zero x.high x.low e;
    bounded = omega (arith, abs_neg x.high);
  })

  pub negated_low : x.low < word → Turned (neg_ℤ (number x)) x (record { low = 18446744073709551615 - x.low + 1; high = R (R (pos 0 -ℤ R x.high) -ℤ pos 1) })
  unfolding number
  negated_low b = rw less_reads (record { is = neg_low x.high x.low b; bounded = less_bound })

-- ---- the signs

pub turned_below : (z v : ℤ) → SFits w64 z → lt_z (R z) (pos 0) ≡ true → neg_ℤ v ≡ turned z v
turned_below z v f t = go z (rw (back z f) at t)
  where
    go : (z : ℤ) → lt_z z (pos 0) ≡ true → neg_ℤ v ≡ turned z v
    go (pos n) t = absurd (let h = ltb-true n 0 t in omega arith)
    go (negsuc n) t = refl

pub turned_above : (z v : ℤ) → SFits w64 z → lt_z (R z) (pos 0) ≡ false → v ≡ turned z v
turned_above z v f t = go z (rw (back z f) at t)
  where
    go : (z : ℤ) → lt_z z (pos 0) ≡ false → v ≡ turned z v
    go (pos n) t = refl
    go (negsuc n) t = absurd (let z : ◌≡◌ {A = ℕ} 0 1 = cc in omega arith)

signs : (a b : ℤ) → turned b (turned a (pos (nat_abs a * nat_abs b))) ≡ a *ℤ b
signs (pos a) (pos b) = refl
signs (pos a) (negsuc b) = refl
signs (negsuc a) (pos b) = refl
signs (negsuc a) (negsuc b) = neg_ℤ-neg_ℤ (pos (suc a * suc b))

pub abs_i32 : (b : ℤ) → SFits w32 b → nat_abs b ≤ 2147483648
abs_i32 (pos n) f = omega (arith, f.sfits)
abs_i32 (negsuc n) f = omega (arith, f.sfits)

module _ (a b : ℤ) (s : Small a) (f : SFits w32 b) {w : ℤ} (ew : w ≡ R32 b) where
  second : R w ≡ b
  second = ap R ew ∙ back (R32 b) (rw (back32 b f) (record { sfits = omega (arith, f.sfits) })) ∙ back32 b f

  pub magnitudes : (p q : ℕ) → p ≡ nat_abs (R a) → q ≡ nat_abs (R w) → (p ≤ limit) × (q ≤ 2147483648)
  magnitudes p q e g = (rw (e, small_back a s) s.small, rw (g, second) (abs_i32 b f))

  pub product_is : (p q : ℕ) → p ≡ nat_abs (R a) → q ≡ nat_abs (R w) → (x y z : Numerator) → Times p q x → Turned (turned (R a) (number x)) x y → Turned (turned (R w) (number y)) y z → Product (a *ℤ b) z
  product_is p q e g x y z t u v = record {
    is = v.is ∙ ap₂ turned second (u.is ∙ ap₂ turned (small_back a s) (t.is ∙ ap₂ (λ (m n : ℕ). pos (m * n)) (e ∙ ap nat_abs (small_back a s)) (g ∙ ap nat_abs second))) ∙ signs a b;
    bounded = omega (arith, t.bounded, u.bounded, v.bounded);
  }

-- ---- the sum

add_carry : (g h : ℤ) (a b l : ℕ) → a + b ≡ l + word → (g +ℤ h +ℤ pos 1) *ℤ pos word +ℤ pos l ≡ (g *ℤ pos word +ℤ pos a) +ℤ (h *ℤ pos word +ℤ pos b)
add_carry g h a b l e = rw (← atom g, ← atom h) (simp diff (omega arith))

add_plain : (g h : ℤ) (a b l : ℕ) → a + b ≡ l → (g +ℤ h) *ℤ pos word +ℤ pos l ≡ (g *ℤ pos word +ℤ pos a) +ℤ (h *ℤ pos word +ℤ pos b)
add_plain g h a b l e = rw (← atom g, ← atom h) (simp diff (omega arith))

module _ (x y : Numerator) (s : Small x.high × Small y.high) where
  highs : R x.high +ℤ R y.high ≡ x.high +ℤ y.high
  highs = ap₂ ◌+ℤ◌ (small_back x.high s.0) (small_back y.high s.1)

  pub highs_fit : SFits w64 (R x.high +ℤ R y.high)
  highs_fit = rw highs (by_abs (x.high +ℤ y.high) (omega (arith, abs_add x.high y.high, s.0.small, s.1.small)))

  highs_read : R (R x.high +ℤ R y.high) ≡ x.high +ℤ y.high
  highs_read = back _ highs_fit ∙ highs

  more_bound : nat_abs (x.high +ℤ y.high +ℤ pos 1) ≤ nat_abs x.high + nat_abs y.high + 1
  more_bound = omega (arith, abs_add (x.high +ℤ y.high) (pos 1), abs_add x.high y.high)

  pub more_fits : SFits w64 (R (R x.high +ℤ R y.high) +ℤ pos 1)
  more_fits = rw highs_read (by_abs (x.high +ℤ y.high +ℤ pos 1) (omega (arith, more_bound, s.0.small, s.1.small)))

  more_reads : R (R (R x.high +ℤ R y.high) +ℤ pos 1) ≡ x.high +ℤ y.high +ℤ pos 1
  more_reads = back _ more_fits ∙ ap (λ (z : ℤ). z +ℤ pos 1) highs_read

  module _ (l : ℕ) (fx : x.low < word) (fy : y.low < word) (e : l ≡ (x.low + y.low) % word) where
    pub sum_carried : l < x.low → SumOf x y (record { low = l; high = R (R (R x.high +ℤ R y.high) +ℤ pos 1) })
    unfolding number
    sum_carried h = rw more_reads (record {
      is = add_carry x.high y.high x.low y.low l (omega arith);
      low = omega arith;
      bounded = more_bound;
    })

    pub sum_plain : x.low ≤ l → SumOf x y (record { low = l; high = R (R x.high +ℤ R y.high) })
    unfolding number
    sum_plain h = rw highs_read (record {
      is = add_plain x.high y.high x.low y.low l (omega arith);
      low = omega arith;
      bounded = omega (arith, abs_add x.high y.high);
    })

-- ---- five products

pub times_back : (c n : ℤ) → Small c → SFits w32 n → R c *ℤ R32 n ≡ c *ℤ n
times_back c n s f = ap₂ ◌*ℤ◌ (small_back c s) (back32 n f)

-- ---- the words of a number that one word holds

pub words_below : (z : ℤ) (n : ℕ) → SFits w64 z → lt_z z (pos 0) ≡ true → n ≡ nat_abs z → (1 ≤ n) × (◌≡◌ {A = Numerator} (record { low = 18446744073709551615 - (n - 1); high = negsuc 0 }) (words z))
unfolding words
words_below (pos k) n f t e = absurd (let v = ltb-true k 0 t in omega arith)
words_below (negsuc k) n f t e =
    let u : k < 2 ^ 63 = f.sfits in
    let p : 18446744073709551615 - (n - 1) ≡ word - 1 - k % word = omega arith in
    let q : 0 ≡ k / word = omega arith in
    (omega arith, λ i. record { low = p i; high = negsuc (q i) })

pub words_above : (z : ℤ) (n : ℕ) → SFits w64 z → lt_z z (pos 0) ≡ false → n ≡ nat_abs z → ◌≡◌ {A = Numerator} (record { low = n; high = pos 0 }) (words z)
unfolding words
words_above (pos k) n f t e =
    let u : k < 2 ^ 63 = f.sfits in
    let p : n ≡ k % word = omega arith in
    let q : 0 ≡ k / word = omega arith in
    λ i. record { low = p i; high = pos (q i) }
words_above (negsuc k) n f t e = clash t

-- ---- the sign of the whole

-- the high word as it is read back
pub high_back : (h : ℤ) → mag h < 2 ^ 63 → R h ≡ h
high_back h b = back h (record { sfits = b })

pub below_zero : (h : ℤ) (l : ℕ) → l < word → lt_z h (pos 0) ≡ true → true ≡ le_z (h *ℤ pos word +ℤ pos l) (pos 0)
below_zero (pos k) l b t = absurd (let h = ltb-true k 0 t in omega arith)
below_zero (negsuc k) l b t = sym (ap (λ (z : ℤ). le_z z (pos 0)) (below (suc k * word) l (suc k * word - suc l) (omega arith)))

just_low : (h : ℤ) (l : ℕ) → lt_z h (pos 0) ≡ false → lt_z (pos 0) h ≡ false → eqb l 0 ≡ le_z (h *ℤ pos word +ℤ pos l) (pos 0)
just_low (negsuc k) l t u = absurd (let z : ◌≡◌ {A = ℕ} 0 1 = cc in omega arith)
just_low (pos k) l t u = let h = ltb-false 0 k u in go l k (omega arith)
  where
    go : (l k : ℕ) → k ≡ 0 → eqb l 0 ≡ leb (k * word + l) 0
    go zero k e = sym (le-leb (k * word + 0) 0 (omega arith))
    go (suc l) k e = ne_eqb (suc l) 0 (λ p. omega arith) ∙ sym (lt-leb (k * word + suc l) 0 (omega arith))

pub zero_low : (h : ℤ) (l : ℕ) → mag h < 2 ^ 63 → of_z w64 h ≡ 0 → eqb l 0 ≡ le_z (h *ℤ pos word +ℤ pos l) (pos 0)
zero_low h l b e = let z : h ≡ pos 0 = sym (high_back h b) ∙ ap (to_z w64) e in rw z (just_low (pos 0) l refl refl)

pub above_zero : (h : ℤ) (l : ℕ) → lt_z h (pos 0) ≡ false → (of_z w64 h ≡ 0 → ⊥) → eqb (of_z w64 h) 0 ≡ le_z (h *ℤ pos word +ℤ pos l) (pos 0)
above_zero (pos zero) l t n = absurd (n refl)
above_zero (pos (suc k)) l t n = ne_eqb (suc k) 0 n ∙ sym (lt-leb (suc k * word + l) 0 (omega arith))
above_zero (negsuc k) l t n = clash t
