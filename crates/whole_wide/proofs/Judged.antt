-- What lies in two words, and its words.
use Rattle.std.specs.Prelude.{Some, None}
use mathlib.Core.Path.{◌≡◌, refl, sym, ap, ◌∙◌}
use mathlib.Core.Bool.{Bool, true, false, ◌&&◌}
use Prim.Native.Nat.{ℕ, zero, suc, ◌+◌, ◌-◌, ◌*◌, ◌≤◌, ◌<◌}
use native.Mathlib.Nat.{mul-le-mul_right}
use native.Mathlib.Omega.{arith}
use lib.Dec.{leb, leb→le, le→leb}
use lib.IntN.{ℤ, pos, negsuc, ◌-ℤ◌, ◌+ℤ◌, ◌*ℤ◌, +ℤ_idr}
use lib.Signed.{mag}
use mir.Syntax.{w64}
use mir.Val.{SFits, to_z}
use Rattle.whole.specs.Cases.{if, is_true, by_test}
use Rattle.whole.specs.declared.Numerator.{Numerator}
use Rattle.whole.specs.Numerator.{word, number, words}
use Rattle.whole.specs.NumeratorLaws.{below, words_of}
use Rattle.whole.proofs.Signed.{R, back, plain}
use Rattle.whole_division.specs.declared.Whole.{Whole}
use Rattle.whole_division.specs.Words.{two_words, whole_as}
use Rattle.whole_wide.specs.Wide.{outside_from, in_two_words, fitted}

-- ---- judged

in_by : (n k : ℕ) → n < suc k → leb n k ≡ true
in_by n k h = is_true (leb n k) (le→leb n k (omega arith))

out_by : (n k : ℕ) → suc k ≤ n → leb n k ≡ false
out_by n k h = by_test (leb n k) (λ b. b ≡ false) (λ t. absurd (apart (leb→le n k t) h)) (λ t. refl)
  where
    apart : n ≤ k → suc k ≤ n → ⊥
    apart a b = omega arith

pub fitted_in : (z : ℤ) → mag z < outside_from → fitted z ≡ Some (words z)
unfolding fitted in_two_words
fitted_in (pos n) h = ap (λ (b : Bool). if b (Some (words (pos n))) None) (in_by n 170141183460469231731687303715884105727 h)
fitted_in (negsuc n) h = ap (λ (b : Bool). if (b && true) (Some (words (negsuc n))) None) (in_by n 170141183460469231731687303715884105727 h)

pub fitted_out : (z : ℤ) → outside_from ≤ mag z → fitted z ≡ None
unfolding fitted in_two_words
fitted_out (pos n) h = ap (λ (b : Bool). if b (Some (words (pos n))) None) (out_by n 170141183460469231731687303715884105727 h)
fitted_out (negsuc n) h = ap (λ (b : Bool). if (b && true) (Some (words (negsuc n))) None) (out_by n 170141183460469231731687303715884105727 h)

-- ---- words below and above 2⁶³

low_words : (h l : ℕ) → h < 9223372036854775808 → l < word → two_words h l < outside_from
low_words h l a b = less (h * word) (9223372036854775807 * word) l word (mul-le-mul_right word (top h a)) b
  where
    top : (h : ℕ) → h < 9223372036854775808 → h ≤ 9223372036854775807
    top h a = omega arith

    less : (p q l w : ℕ) → p ≤ q → l < w → p + l < q + w
    less p q l w h k = omega arith

high_words : (h l : ℕ) → 9223372036854775808 ≤ h → outside_from ≤ two_words h l
high_words h l a = more (9223372036854775808 * word) (h * word) l (mul-le-mul_right word a)
  where
    more : (p q l : ℕ) → p ≤ q → p ≤ q + l
    more p q l h = omega arith

signed_mag : (b : Bool) (n : ℕ) → mag (if b (negsuc n) (pos n)) ≡ n
signed_mag true n = refl
signed_mag false n = refl

minus : (n : ℕ) → negsuc 0 -ℤ pos n ≡ negsuc n
minus zero = +ℤ_idr (negsuc 0)
minus (suc n) = ap negsuc (omega arith)

module _ (x : Whole) where
  pub fit_high : 9223372036854775808 ≤ x.high → None ≡ fitted (whole_as x)
  fit_high a = sym (fitted_out (whole_as x) (rw (signed_mag x.below (two_words x.high x.low)) (high_words x.high x.low a)))

  module _ (a : x.high < 9223372036854775808) (b : x.low < word) where
    within : mag (whole_as x) < outside_from
    within = rw (signed_mag x.below (two_words x.high x.low)) (low_words x.high x.low a b)

    module _ (s : x.below ≡ true) where
      pub turned_fits : SFits w64 (negsuc 0 -ℤ to_z w64 x.high)
      turned_fits = rw (plain x.high a, minus x.high) (record { sfits = a })

      pub fit_below : Some (record { low = 18446744073709551615 - x.low; high = R (negsuc 0 -ℤ to_z w64 x.high) }) ≡ fitted (whole_as x)
      unfolding number
      fit_below =
          let f : R (negsuc 0 -ℤ to_z w64 x.high) ≡ negsuc x.high = back _ turned_fits ∙ ap (λ (u : ℤ). negsuc 0 -ℤ u) (plain x.high a) ∙ minus x.high in
          ap (λ (u : ℤ). Some (record { low = 18446744073709551615 - x.low; high = u })) f
          ∙ ap Some (words_of (record { low = 18446744073709551615 - x.low; high = negsuc x.high }) (whole_as x) (omega arith)
          (below (suc x.high * word) (18446744073709551615 - x.low) (two_words x.high x.low) (omega arith)
          ∙ ap (λ (b : Bool). if b (negsuc (two_words x.high x.low)) (pos (two_words x.high x.low))) (sym s)))
          ∙ sym (fitted_in (whole_as x) within)

    module _ (s : x.below ≡ false) where
      pub fit_above : Some (record { low = x.low; high = to_z w64 x.high }) ≡ fitted (whole_as x)
      unfolding number
      fit_above =
          ap (λ (u : ℤ). Some (record { low = x.low; high = u })) (plain x.high a)
          ∙ ap Some (words_of (record { low = x.low; high = pos x.high }) (whole_as x) b
          (ap (λ (b : Bool). if b (negsuc (two_words x.high x.low)) (pos (two_words x.high x.low))) (sym s)))
          ∙ sym (fitted_in (whole_as x) within)

-- ---- words as they are lent

words_within : (h : ℤ) (l : ℕ) → mag h < 9223372036854775808 → l < word → mag (h *ℤ pos word +ℤ pos l) < outside_from
words_within (pos k) l a b = low_words k l a b
words_within (negsuc k) l a b = rw (below (suc k * word) l (two_words k (18446744073709551615 - l)) (omega arith)) (low_words k (18446744073709551615 - l) a (omega arith))

pub number_within : (x : Numerator) → SFits w64 x.high → x.low < word → mag (number x) < outside_from
unfolding number
number_within x f b = words_within x.high x.low f.sfits b
