-- What a test is divided by is the greatest common divisor of its numbers.
use Rattle.std.specs.Prelude.{◌≡◌, ◌⊎◌, T, ℤ, pos, negsuc, nat_abs}
use Rattle.std.proofs.Math.Path.{refl, subst}
use Rattle.std.proofs.Common.{sym, ⊎_elim, inl, inr, arith}
use mathlib.Core.List.Memᴰ
use mathlib.Core.List.{List, [], ◌∷◌, ◌++◌, Memᴰ}
use Prim.Native.Nat.{ℕ, zero, suc}
use Rattle.std.proofs.Math.Dec.{compare_is_eq}
use Rattle.whole.specs.Cases.{and_in}
use Rattle.whole.specs.Divisor.{gcd_of, gcd_all, at_least_one, Divides, gcd_left, gcd_right, gcd_greatest, gcd_all_greatest, gcd_all_divides, divides_trans, least_divides}
use Rattle.theory.specs.Diagram.{Linear, cmp_ℤ, zeros, quotient, divisor, test_of}
use Rattle.theory.proofs.laws.Values.{quotient_exact}
use Rattle.theorems.specs.Demands.{DividesAll, TestsDivided}

in_append : {A : Type 0} (l : List A) (y z : A) → Memᴰ z (l ++ (y ∷ [])) → Memᴰ z l ⊎ (z ≡ y)
in_append [] y z m = ⊎_elim (λ i. inr i) (λ i. absurd (Memᴰ.not-nil i)) (Memᴰ.cases_cons m)
in_append (x ∷ l) y z m = ⊎_elim (λ i. inl (Memᴰ.head i)) (λ i. ⊎_elim (λ j. inl (Memᴰ.tail j)) inr (in_append l y z i)) (Memᴰ.cases_cons m)

append_in : {A : Type 0} (l : List A) (y z : A) → Memᴰ z l → Memᴰ z (l ++ (y ∷ []))
append_in [] y z m = absurd (Memᴰ.not-nil m)
append_in (x ∷ l) y z m = ⊎_elim (λ i. Memᴰ.head i) (λ i. Memᴰ.tail (append_in l y z i)) (Memᴰ.cases_cons m)

last_in : {A : Type 0} (l : List A) (y : A) → Memᴰ y (l ++ (y ∷ []))
last_in [] y = Memᴰ.head refl
last_in (x ∷ l) y = Memᴰ.tail (last_in l y)

-- 0 divides nothing but 0
zero_only : (z : ℤ) → Divides 0 (nat_abs z) → T (compare_is_eq (cmp_ℤ z (pos 0)))
zero_only (pos n) d = let e : n ≡ 0 = omega (arith, d.is) in subst (λ (n : ℕ). T (compare_is_eq (cmp_ℤ (pos n) (pos 0)))) (sym e) tt
zero_only (negsuc n) d = absurd (omega (arith, d.is))

all_zero : (l : List ℤ) → ((z : ℤ) → Memᴰ z l → Divides 0 (nat_abs z)) → T (zeros l)
unfolding zeros
all_zero [] f = tt
all_zero (z ∷ l) f = and_in (compare_is_eq (cmp_ℤ z (pos 0))) (zeros l) (zero_only z (f z (Memᴰ.head refl))) (all_zero l (λ y m. f y (Memᴰ.tail m)))

module _ (p : Linear) where
  abbrev common : ℕ
  common = gcd_of (nat_abs p.const) (gcd_all p.coeffs)

  divides_each : DividesAll common p
  divides_each z m = ⊎_elim
      (λ i. divides_trans common (gcd_all p.coeffs) (nat_abs z) (gcd_right (nat_abs p.const) (gcd_all p.coeffs)) (gcd_all_divides p.coeffs z i))
      (λ i. subst (λ (y : ℤ). Divides common (nat_abs y)) (sym i) (gcd_left (nat_abs p.const) (gcd_all p.coeffs)))
      (in_append p.coeffs p.const z m)

  greatest : (k : ℕ) → DividesAll k p → Divides k common
  greatest k f = gcd_greatest k (nat_abs p.const) (gcd_all p.coeffs) (f p.const (last_in p.coeffs p.const))
      (gcd_all_greatest k p.coeffs (λ z m. f z (append_in p.coeffs p.const z m)))

  -- where a coefficient is not 0, no 1 stands in
  same_divisor : (T (zeros p.coeffs) → ⊥) → (g : ℕ) → common ≡ g → at_least_one g ≡ g
  unfolding at_least_one
  same_divisor n zero e = absurd (n (all_zero p.coeffs (λ z m. subst (λ (g : ℕ). Divides g (nat_abs z)) e (divides_each z (append_in p.coeffs p.const z m)))))
  same_divisor n (suc g) e = refl

pub tests_divided : TestsDivided
unfolding test_of divisor
tests_divided p n = (
  divisor p,
  (
    quotient (divisor p) p,
    (
      refl,
      (
        quotient_exact p,
        (
          λ z m. least_divides (common p) (nat_abs z) (divides_each p z m),
          λ k f. subst (Divides k) (sym (same_divisor p n (common p) refl)) (greatest p k f),
        ),
      ),
    ),
  ),
)
