-- Accepted states: the bits of a mask, and the levels beyond the site's.
use mathlib.Core.Path.{◌≡◌, refl, sym, ap, ◌∙◌}
use mathlib.Core.Bool.{Bool, true, false, ◌&&◌}
use mathlib.Core.List.{List, [], ◌∷◌}
use Prim.Native.Nat.{ℕ, zero, suc, ◌+◌, ◌-◌, ◌/◌, ◌%◌, ◌^◌, ◌≤◌, ◌<◌}
use native.Mathlib.Nat.{div-eq_of_lt, div-lt_iff_lt-mul, div-one, div-div-eq-div-mul, pow-zero, pow-succ'}
use native.Mathlib.Omega.{arith}
use borrow.Author.Tests.{eq-eqb, ne_eqb, lt-ltb, le-ltb, le-leb, lt-leb}
use lib.Dec.{eqb, ltb, leb, compare_is_eq, leb→le, nleb→lt}
use lib.IntN.{ℤ, pos, negsuc}
use lib.ListN.{length, get_or, take, drop, drop_of_length-le}
use lib.Pow.{pow_mono, pow_pos}
use lib.Seq.{get_or-take, length-take-le}
use lib.Signed.{mag, le_z}
use mir.Syntax.{w32}
use mir.Val.{SFits, of_z}
use Rattle.whole.specs.Cases.{by_test}
use Rattle.whole.specs.Linears.{numbers}
use Rattle.whole.specs.LinearsLaws.{rest}
use Rattle.whole.proofs.Signed.{R32, back32}
use Rattle.theory.specs.Widths.{levels_most}
use Rattle.theory.specs.Diagram.{cmp_ℤ, zeros}
use Rattle.theory.specs.Meaning.{nth}
use Rattle.theory.specs.Value.{accepted, bits}
use Rattle.value_walk.specs.declared.Asked.{Asked}
use Rattle.value_walk.specs.State.{asked}
use Rattle.table_rows.proofs.Judged.{and_true, all_three}

-- ---- levels

-- the bits of a number are 0 where the number is
zero_bits : (z : ℤ) → SFits w32 z → eqb (of_z w32 z) 0 ≡ zeros (z ∷ [])
unfolding zeros
zero_bits (pos n) f = sym (and_true (eqb n 0))
zero_bits (negsuc n) f = ne_eqb (of_z w32 (negsuc n)) 0 (λ e. omega (arith, f.sfits))

-- what is left of the levels from i on decides
module _ (n : List ℤ) (e : length n ≡ numbers) (m i : ℕ) (is : zeros (drop i (take levels_most n)) ≡ zeros (drop m (take levels_most n))) where
  levels_long : length (take levels_most n) ≡ levels_most
  levels_long = length-take-le levels_most n (omega arith)

  here : i < levels_most → (zeros (get_or n i (pos 0) ∷ []) && zeros (drop (i + 1) (take levels_most n))) ≡ zeros (drop m (take levels_most n))
  unfolding zeros
  here h =
      let z = get_or n i (pos 0) in
      ap (λ (b : Bool). b && zeros (drop (i + 1) (take levels_most n))) (and_true (compare_is_eq (cmp_ℤ z (pos 0))))
      ∙ (sym (ap zeros (rest (take levels_most n) i (omega (arith, levels_long)) ∙ ap (λ (y : ℤ). y ∷ drop (i + 1) (take levels_most n)) (get_or-take levels_most n i (pos 0) h))) ∙ is)

  module _ (h : i < levels_most) (f : mag (get_or n i (pos 0)) < 2 ^ 31) where
    bits_are : eqb (of_z w32 (get_or n i (pos 0))) 0 ≡ zeros (get_or n i (pos 0) ∷ [])
    bits_are = zero_bits (get_or n i (pos 0)) (record { sfits = f })

    pub one_set : (of_z w32 (get_or n i (pos 0)) ≡ 0 → ⊥) → false ≡ zeros (drop m (take levels_most n))
    one_set k = ap (λ (b : Bool). b && zeros (drop (i + 1) (take levels_most n))) (sym (ne_eqb (of_z w32 (get_or n i (pos 0))) 0 k) ∙ bits_are) ∙ here h

    pub one_zero : of_z w32 (get_or n i (pos 0)) ≡ 0 → zeros (drop (i + 1) (take levels_most n)) ≡ zeros (drop m (take levels_most n))
    one_zero k = ap (λ (b : Bool). b && zeros (drop (i + 1) (take levels_most n))) (sym (eq-eqb (of_z w32 (get_or n i (pos 0))) 0 k) ∙ bits_are) ∙ here h

  pub all_zero : levels_most ≤ i → true ≡ zeros (drop m (take levels_most n))
  unfolding zeros
  all_zero h = sym (ap zeros (drop_of_length-le (take levels_most n) {i = i} (omega (arith, levels_long)))) ∙ is

-- ---- the mask

pub mask_narrow : (n x : ℕ) → x < 2 ^ 32 → 32 ≤ n → leb 32 n ≡ ltb x (2 ^ n)
mask_narrow n x f h = le-leb 32 n h ∙ sym (lt-ltb x (2 ^ n) (omega (arith, pow_mono h)))

pub mask_shifted : (n x : ℕ) → eqb (x / 2 ^ n) 0 ≡ ltb x (2 ^ n)
mask_shifted n x = by_test (leb (2 ^ n) x) (λ b. eqb (x / 2 ^ n) 0 ≡ ltb x (2 ^ n))
    (λ t. let h = leb→le (2 ^ n) x t in ne_eqb (x / 2 ^ n) 0 (λ e. omega (arith, (div-lt_iff_lt-mul {k = 2 ^ n} {x = x} {y = 1} (pow_pos n)).0 (omega arith))) ∙ sym (le-ltb x (2 ^ n) h))
    (λ t. let h = nleb→lt (2 ^ n) x t in eq-eqb (x / 2 ^ n) 0 (div-eq_of_lt h) ∙ sym (lt-ltb x (2 ^ n) h))

-- ---- conditions

bit_is : (n x j : ℕ) → j < n → eqb ((x / 2 ^ j) % 2) 1 ≡ nth (bits n x) (suc j)
unfolding nth bits
bit_is zero x j h = absurd (omega arith)
bit_is (suc n) x zero h = ap (λ (y : ℕ). eqb (y % 2) 1) (ap (λ (p : ℕ). x / p) (pow-zero 2) ∙ div-one x)
bit_is (suc n) x (suc j) h =
    ap (λ (y : ℕ). eqb (y % 2) 1) (ap (λ (p : ℕ). x / p) (pow-succ' 2 j) ∙ sym (div-div-eq-div-mul x 2 (2 ^ j))) ∙ bit_is n (x / 2) j (omega arith)

pub condition_is : (n x k : ℕ) → (1 ≤ k) × (k ≤ n) → eqb ((x / 2 ^ (k - 1)) % 2) 1 ≡ nth (bits n x) k
condition_is n x k h =
    let e : suc (k - 1) ≡ k = omega arith in
    bit_is n x (k - 1) (omega arith) ∙ ap (nth (bits n x)) e

pub condition_far : (n x k : ℕ) → x < 2 ^ 32 → (1 ≤ k) × (k ≤ n) → 32 < k → leb k 32 ≡ nth (bits n x) k
condition_far n x k f h g =
    let m : 2 ^ 32 ≤ 2 ^ (k - 1) = pow_mono {i = 32} {j = k - 1} (omega arith) in
    let e : x / 2 ^ (k - 1) ≡ 0 = div-eq_of_lt (omega arith) in
    lt-leb k 32 g ∙ ap (λ (y : ℕ). eqb (y % 2) 1) (sym e) ∙ condition_is n x k h

-- ---- the whole

pub accepted_is : (m n : ℕ) (q : Asked) {p x z : Bool} → mag (get_or q.n levels_most (pos 0)) < 2 ^ 31 → p ≡ le_z (pos 1) (R32 (get_or q.n levels_most (pos 0))) → x ≡ ltb q.mask (2 ^ n) → z ≡ zeros (drop m (asked q).nums)
    → (p && x) && z ≡ accepted m n (asked q)
unfolding accepted
accepted_is m n q f e₁ e₂ e₃ = all_three (e₁ ∙ ap (le_z (pos 1)) (back32 (get_or q.n levels_most (pos 0)) (record { sfits = f }))) e₂ e₃

pub accepted_by : (m n : ℕ) (q : Asked) {v z : Bool} → mag (get_or q.n levels_most (pos 0)) < 2 ^ 31 → v ≡ (le_z (pos 1) (R32 (get_or q.n levels_most (pos 0))) && ltb q.mask (2 ^ n))
    → z ≡ zeros (drop m (asked q).nums) → v && z ≡ accepted m n (asked q)
accepted_by m n q {v} {z} f e k = ap (λ (b : Bool). b && z) e ∙ accepted_is m n q f refl refl k
