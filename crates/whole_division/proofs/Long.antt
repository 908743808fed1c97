-- Long division of two words: the high word, then the low word's halves, each remainder before the next half.
use mathlib.Core.Path.{◌≡◌, sym, ap, ◌∙◌, subst}
use Prim.Native.Nat.{ℕ, ◌+◌, ◌*◌, ◌/◌, ◌%◌, ◌<◌}
use native.Mathlib.Nat.{mod-lt, mod-eq_of_lt, div-add-mod', div-eq_of_lt, div-lt_iff_lt-mul, mul-add-div_right, mul-add-mod_self_right, add-mul, mul_right_comm}
use native.Mathlib.Omega.{arith}
use Rattle.whole_division.specs.Words.{two_words, Divided}

-- 2³²
abbrev half : ℕ
half = 4294967296

-- a half behind a remainder has a quotient of half a word
pub digit_small : (r x d : ℕ) → r < d → x < half → (r * half + x) / d < half
digit_small r x d h k = (div-lt_iff_lt-mul {k = d} {x = r * half + x} {y = half} (omega arith)).1 (omega arith)

by_each : (a b c d : ℕ) → (a * 18446744073709551616 + (b * half + c)) * d ≡ a * d * 18446744073709551616 + (b * d * half + c * d)
by_each a b c d =
    let e : a * 18446744073709551616 * d ≡ a * d * 18446744073709551616 = mul_right_comm a 18446744073709551616 d in
    let f : b * half * d ≡ b * d * half = mul_right_comm b half d in
    add-mul (a * 18446744073709551616) (b * half + c) d
    ∙ ap (λ (x : ℕ). a * 18446744073709551616 * d + x) (add-mul (b * half) c d)
    ∙ (λ i. e i + (f i + c * d))

module _ (high low d : ℕ) (p : 0 < d) where
  abbrev upper : ℕ
  upper = high % d * half + low / half

  abbrev lower : ℕ
  lower = upper % d * half + low % half

  abbrev quotient : ℕ
  quotient = two_words (high / d) (upper / d * half + lower / d)

  whole_is : quotient * d + lower % d ≡ two_words high low
  whole_is = omega (arith, by_each (high / d) (upper / d) (lower / d) d, div-add-mod' high d, div-add-mod' upper d, div-add-mod' lower d, div-add-mod' low half)

  pub divides : (n : ℕ) → d ≡ n → Divided (two_words high low) n (record { high = high / d; low = upper / d * half + lower / d; rest = lower % d })
  divides n e = subst (λ (k : ℕ). Divided (two_words high low) k (record { high = high / d; low = upper / d * half + lower / d; rest = lower % d })) e (
      let r = mod-lt lower p in
      let k : quotient + lower % d / d ≡ quotient = omega (arith, div-eq_of_lt r) in
      record {
        quotient = sym (ap (λ (n : ℕ). n / d) (sym whole_is) ∙ mul-add-div_right p quotient (lower % d) ∙ k);
        rest = sym (ap (λ (n : ℕ). n % d) (sym whole_is) ∙ mul-add-mod_self_right quotient d (lower % d) ∙ mod-eq_of_lt r);
      })
