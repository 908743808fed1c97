-- Tests on words, on ranges and on coefficients.
use mathlib.Core.Path.{◌≡◌, refl, sym, ap, ap₂, ◌∙◌}
use mathlib.Core.List.{List, [], ◌∷◌}
use mathlib.Core.Bool.{Bool, true, false, not, ◌&&◌}
use Prim.Native.Nat.{ℕ, zero, suc, ◌+◌, ◌-◌, ◌*◌, ◌≤◌, ◌<◌}
use native.Mathlib.Omega.{arith}
use borrow.Author.Tests.{ne_eqb}
use lib.Dec.{compare_is_eq, eqb, ltb, nltb→le}
use lib.IntN.{ℤ, pos, negsuc}
use lib.ListN.{length, drop}
use Rattle.whole.specs.Cases.{if, by_test}
use Rattle.theory.specs.Diagram.{cmp_ℤ, zeros, padded}
use Rattle.theory.specs.Widths.{levels_most}
use Rattle.theory.specs.Form.{Form, old_form, new_form, levels_in}
use Rattle.theory.specs.Verdict.{beyond}
use Rattle.theory.specs.Command.{word_at, signed, signed_from, linear_in}

-- ---- words as signed numbers

zero_word : (n : ℕ) → compare_is_eq (cmp_ℤ (signed n) (pos 0)) ≡ eqb n 0
unfolding signed
zero_word n = by_test (ltb n 2147483648) (λ b. compare_is_eq (cmp_ℤ (if b (pos n) (negsuc (4294967295 - n))) (pos 0)) ≡ eqb n 0)
    (λ _. refl) (λ t. sym (ne_eqb n 0 (let h = nltb→le n 2147483648 t in λ e. omega arith)))

-- ---- coefficients that the form does not have

levels_within : (form : Form) → levels_in form ≤ levels_most
levels_within old_form = omega arith
levels_within new_form = omega arith

drop_padded : (m k : ℕ) → zeros (drop m (padded k [])) ≡ true
unfolding zeros padded
drop_padded zero zero = refl
drop_padded zero (suc k) = drop_padded zero k
drop_padded (suc m) zero = refl
drop_padded (suc m) (suc k) = drop_padded m k

zeros_padded : (m k : ℕ) (l : List ℤ) → length l ≤ k → zeros (drop m (padded k l)) ≡ zeros (drop m l)
unfolding zeros padded
zeros_padded zero k [] h = drop_padded zero k
zeros_padded (suc m) k [] h = drop_padded (suc m) k
zeros_padded zero zero (z ∷ l) h = absurd (omega arith)
zeros_padded zero (suc k) (z ∷ l) h = ap (λ (b : Bool). compare_is_eq (cmp_ℤ z (pos 0)) && b) (zeros_padded zero k l (omega arith))
zeros_padded (suc m) zero (z ∷ l) h = absurd (omega arith)
zeros_padded (suc m) (suc k) (z ∷ l) h = zeros_padded m k l (omega arith)

module _ (B : List ℕ) where
  pub zeros_turn : (at k : ℕ) → 0 < k → zeros (signed_from B at k) ≡ (eqb (word_at B at) 0 && zeros (signed_from B (at + 4) (k - 1)))
  unfolding zeros signed_from
  zeros_turn at zero h = absurd (omega arith)
  zeros_turn at (suc k) h =
      let e : suc k - 1 ≡ k = omega arith in
      ap₂ ◌&&◌ (zero_word (word_at B at)) (ap (λ (j : ℕ). zeros (signed_from B (at + 4) j)) (sym e))

  pub zeros_done : (at k : ℕ) → k ≤ 0 → true ≡ zeros (signed_from B at k)
  unfolding zeros signed_from
  zeros_done at zero h = refl
  zeros_done at (suc k) h = absurd (omega arith)

  drop_none : (m : ℕ) → drop {A = ℤ} m [] ≡ []
  drop_none zero = refl
  drop_none (suc m) = refl

  -- without the first m
  coeffs_from : (m at k : ℕ) → drop m (signed_from B at k) ≡ signed_from B (at + m * 4) (k - m)
  unfolding signed_from
  coeffs_from zero at k =
      let e : at ≡ at + 0 * 4 = omega arith in
      let f : k ≡ k - 0 = omega arith in
      ap₂ (λ (i j : ℕ). signed_from B i j) e f
  coeffs_from (suc m) at zero = let e : 0 ≡ 0 - suc m = omega arith in drop_none (suc m) ∙ ap (signed_from B (at + suc m * 4)) e
  coeffs_from (suc m) at (suc k) =
      let e : at + 4 + m * 4 ≡ at + suc m * 4 = omega arith in
      let f : suc k - suc m ≡ k - m = omega arith in
      rw f (coeffs_from m (at + 4) k ∙ ap (λ (i : ℕ). signed_from B i (k - m)) e)

  signed_length : (at k : ℕ) → length (signed_from B at k) ≡ k
  unfolding signed_from
  signed_length at zero = refl
  signed_length at (suc k) = ap suc (signed_length (at + 4) k)

  module _ (form : Form) where
    abbrev levels : ℕ
    levels = levels_in form

    -- what the form has no coefficients for is zero
    coeffs_padded : (m at : ℕ) → zeros (drop m (linear_in form B at).coeffs) ≡ zeros (drop m (signed_from B at levels))
    unfolding linear_in
    coeffs_padded m at = zeros_padded m levels_most (signed_from B at levels) (let h = levels_within form in omega (arith, signed_length at levels))

    pub beyond_from : (m at : ℕ) → not (zeros (signed_from B (at + m * 4) (levels - m))) ≡ beyond m (linear_in form B at)
    unfolding beyond
    beyond_from m at = ap not (ap zeros (sym (coeffs_from m at levels)) ∙ sym (coeffs_padded m at))

    pub none_beyond : (m at : ℕ) → levels ≤ m → false ≡ beyond m (linear_in form B at)
    unfolding signed_from zeros
    none_beyond m at h = let e : levels - m ≡ 0 = omega arith in sym (sym (beyond_from m at) ∙ rw e)

    pub constant_from : (at : ℕ) → zeros (signed_from B at levels) ≡ zeros (linear_in form B at).coeffs
    constant_from at = sym (coeffs_padded 0 at)
