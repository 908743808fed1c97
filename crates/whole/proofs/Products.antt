-- The loops of a dot product: the sum so far, in two words and in one.
use Rattle.std.proofs.Common.{◌≡◌, ℕ, ◌+◌, ◌*◌, ◌<◌, ◌≤◌, List, length, get_or, drop, ℤ, pos, ◌+ℤ◌, ◌*ℤ◌, nat_abs, sym, ap, ◌∙◌, subst, ap₂, mul-le-mul, arith, drop_of_length-le, w32, w64, SFits}
use lib.IntN.{+ℤ_assoc, +ℤ_idl, +ℤ_idr}
use Rattle.whole.specs.declared.Numerator.{Numerator}
use Rattle.whole.specs.Linears.{numbers, Smalls, dot_list}
use Rattle.whole.specs.LinearsLaws.{rest}
use Rattle.whole.specs.Magnitude.{abs_add, abs_mul}
use Rattle.whole.specs.Numerator.{word, number, words}
use Rattle.whole.specs.NumeratorLaws.{Product, SumOf, words_of}
use Rattle.whole.specs.Within.{Small}
use Rattle.whole.proofs.Signed.{R, R32, back, back32, by_abs, small_back, widens}
use Rattle.whole.proofs.TwoWords.{abs_i32, times_back}

-- 2²⁷, and the most that a product is
abbrev few : ℕ
few = 134217728

abbrev product_most : ℕ
product_most = 288230376151711744

module _ (c n : List ℤ) (ec : length c ≡ numbers) (en : length n ≡ numbers) where
  abbrev left : ℕ → ℤ
  left i = dot_list (drop i c) (drop i n)

  abbrev pair : ℕ → ℤ
  pair i = get_or c i (pos 0) *ℤ get_or n i (pos 0)

  one_less : (i : ℕ) → i < numbers → left i ≡ pair i +ℤ left (i + 1)
  unfolding dot_list
  one_less i h = ap₂ dot_list (rest c i (omega arith)) (rest n i (omega arith))

  none_left : (i : ℕ) → numbers ≤ i → left i ≡ pos 0
  unfolding dot_list
  none_left i h = ap₂ dot_list (drop_of_length-le c {i = i} (omega arith)) (drop_of_length-le n {i = i} (omega arith))

  -- a sum so far with the products that are left is the whole
  goes_on : (i : ℕ) (s : ℤ) → i < numbers → s +ℤ left i ≡ dot_list c n → (s +ℤ pair i) +ℤ left (i + 1) ≡ dot_list c n
  goes_on i s h e = +ℤ_assoc s (pair i) (left (i + 1)) ∙ (ap (λ (z : ℤ). s +ℤ z) (sym (one_less i h)) ∙ e)

  ends : (i : ℕ) (s : ℤ) → numbers ≤ i → s +ℤ left i ≡ dot_list c n → s ≡ dot_list c n
  ends i s h e = sym (ap (λ (z : ℤ). s +ℤ z) (none_left i h) ∙ +ℤ_idr s) ∙ e

-- ---- in two words

pub record Summed (c n : List ℤ) (i : ℕ) (s : Numerator) : Type 0 where
  pub upto : i ≤ numbers
  pub is : number s +ℤ dot_list (drop i c) (drop i n) ≡ dot_list c n
  pub low : s.low < word
  pub bounded : nat_abs s.high ≤ i * 1073741825

pub none_summed : (c n : List ℤ) → Summed c n 0 (record { low = 0; high = pos 0 })
unfolding number
none_summed c n = record { upto = omega arith; is = +ℤ_idl (dot_list c n); low = omega arith; bounded = omega arith }

pub summed_small : {c n : List ℤ} {i : ℕ} {s : Numerator} → Summed c n i s → Small s.high
summed_small S = record { small = omega (arith, S.upto, S.bounded) }

pub product_small : {z : ℤ} {p : Numerator} → Product z p → Small p.high
product_small P = record { small = omega (arith, P.bounded) }

module _ (c n : List ℤ) (k : Smalls c) (en : length n ≡ numbers) {i : ℕ} {s : Numerator} (S : Summed c n i s) where
  pub one_summed : {p r : Numerator} → i < numbers → SFits w32 (get_or n i (pos 0)) → Product (R (get_or c i (pos 0)) *ℤ R32 (get_or n i (pos 0))) p → SumOf s p r → Summed c n (i + 1) r
  one_summed {p} {r} h f P A = record {
    upto = omega arith;
    is =
        ap (λ (z : ℤ). z +ℤ dot_list (drop (i + 1) c) (drop (i + 1) n)) (A.is ∙ ap (λ (z : ℤ). number s +ℤ z) (P.is ∙ times_back (get_or c i (pos 0)) (get_or n i (pos 0)) (k.each i) f))
        ∙ goes_on c n k.long en i (number s) h S.is;
    low = A.low;
    bounded = omega (arith, A.bounded, P.bounded, S.bounded);
  }

  pub all_summed : numbers ≤ i → s ≡ words (dot_list c n)
  all_summed h = words_of s (dot_list c n) S.low (ends c n k.long en i (number s) h S.is)

-- ---- in one word

pub record Added (c n : List ℤ) (i : ℕ) (s : ℤ) : Type 0 where
  pub upto : i ≤ numbers
  pub is : s +ℤ dot_list (drop i c) (drop i n) ≡ dot_list c n
  pub bounded : nat_abs s ≤ i * product_most

pub none_added : (c n : List ℤ) → Added c n 0 (pos 0)
none_added c n = record { upto = omega arith; is = +ℤ_idl (dot_list c n); bounded = omega arith }

module _ (a b : ℤ) (sa : Small a) (fb : SFits w32 b) {w : ℤ} (ew : w ≡ R32 b) where
  wide_back : R w ≡ b
  wide_back = ap R ew ∙ back (R32 b) (widens b fb) ∙ back32 b fb

  same : R a *ℤ R w ≡ a *ℤ b
  same = ap₂ ◌*ℤ◌ (small_back a sa) wide_back

  module _ {m : ℕ} (e : m ≡ nat_abs (R a)) (h : m ≤ few) where
    product_bound : nat_abs (a *ℤ b) ≤ product_most
    product_bound =
        let t : m ≡ nat_abs a = e ∙ ap nat_abs (small_back a sa) in
        let k : nat_abs a * nat_abs b ≤ few * 2147483648 = mul-le-mul {n₁ = nat_abs a} {m₁ = nat_abs b} {n₂ = few} {m₂ = 2147483648} (omega arith) (abs_i32 b fb) in
        rw (abs_mul a b) (omega (arith, k))

    product_word : SFits w64 (a *ℤ b)
    product_word = by_abs (a *ℤ b) (omega (arith, product_bound))

    pub product_fits : SFits w64 (R a *ℤ R w)
    product_fits = subst (SFits w64) (sym same) product_word

    product_is : R (R a *ℤ R w) ≡ a *ℤ b
    product_is = ap R same ∙ back (a *ℤ b) product_word

    module _ {c n : List ℤ} {i : ℕ} {s : ℤ} (S : Added c n i s) (u : i < numbers) where
      total_bound : nat_abs (s +ℤ a *ℤ b) ≤ i * product_most + product_most
      total_bound = omega (arith, abs_add s (a *ℤ b), product_bound, S.bounded)

      total_word : SFits w64 (s +ℤ a *ℤ b)
      total_word = by_abs (s +ℤ a *ℤ b) (omega (arith, total_bound))

      total : s +ℤ R (R a *ℤ R w) ≡ s +ℤ a *ℤ b
      total = ap (λ (z : ℤ). s +ℤ z) product_is

      pub sum_fits : SFits w64 (s +ℤ R (R a *ℤ R w))
      sum_fits = subst (SFits w64) (sym total) total_word

      sum_is : R (s +ℤ R (R a *ℤ R w)) ≡ s +ℤ a *ℤ b
      sum_is = ap R total ∙ back (s +ℤ a *ℤ b) total_word

      pub one_added : length c ≡ numbers → length n ≡ numbers → a ≡ get_or c i (pos 0) → b ≡ get_or n i (pos 0) → Added c n (i + 1) (R (s +ℤ R (R a *ℤ R w)))
      one_added ec en ea eb = rw sum_is (record {
        upto = omega arith;
        is = ap (λ (z : ℤ). (s +ℤ z) +ℤ dot_list (drop (i + 1) c) (drop (i + 1) n)) (ap₂ ◌*ℤ◌ ea eb) ∙ goes_on c n ec en i s u S.is;
        bounded = omega (arith, total_bound);
      })

pub all_added : (c n : List ℤ) → length c ≡ numbers → length n ≡ numbers → {i : ℕ} {s : ℤ} → Added c n i s → numbers ≤ i → s ≡ dot_list c n
all_added c n ec en {i} {s} S h = ends c n ec en i s h S.is
