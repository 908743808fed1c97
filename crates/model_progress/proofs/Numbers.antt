-- Tests on words, on ranges and on coefficients.
use mathlib.Core.Path.{◌≡◌, refl, sym, ap, ap₂, ◌∙◌}
use mathlib.Core.List.{List, [], ◌∷◌}
use mathlib.Core.Bool.{Bool, true, false, not, ◌&&◌}
use Prim.Native.Nat.{ℕ, zero, suc, ◌+◌, ◌-◌, ◌*◌, ◌≤◌, ◌<◌}
use native.Mathlib.Omega.{arith}
use borrow.Author.Tests.{ne_eqb, eq-eqb, le-leb, lt-leb, lt-ltb, le-ltb}
use lib.Dec.{T, compare_is_eq, eqb, ltb, leb, leb→le, ltb→lt, nltb→le}
use lib.IntN.{ℤ, pos, negsuc}
use lib.ListN.{length, drop}
use lib.Signed.{le_z}
use Rattle.whole.specs.Cases.{if, by_test, by_eq, both, clash}
use Rattle.theory.specs.Diagram.{Linear, cmp_ℤ, zeros, padded}
use Rattle.theory.specs.Widths.{levels_most, conditions_most}
use Rattle.theory.specs.Form.{Form, old_form, new_form, levels_in}
use Rattle.theory.specs.Valid.{among}
use Rattle.theory.specs.Verdict.{or, next_condition, beyond, is_weight}
use Rattle.theory.specs.Command.{word_at, signed, signed_from, linear_in}

-- ---- words as signed numbers

zero_word : (n : ℕ) → compare_is_eq (cmp_ℤ (signed n) (pos 0)) ≡ eqb n 0
unfolding signed
zero_word n = by_test (ltb n 2147483648) (λ b. compare_is_eq (cmp_ℤ (if b (pos n) (negsuc (4294967295 - n))) (pos 0)) ≡ eqb n 0)
    (λ _. refl) (λ t. sym (ne_eqb n 0 (let h = nltb→le n 2147483648 t in λ e. omega arith)))

-- ---- coefficients that the form does not have

levels_within : (form : Form) → levels_in form ≤ levels_most
levels_within old_form = omega arith
levels_within new_form = omega arith

drop_padded : (m k : ℕ) → zeros (drop m (padded k [])) ≡ true
unfolding zeros padded
drop_padded zero zero = refl
drop_padded zero (suc k) = drop_padded zero k
drop_padded (suc m) zero = refl
drop_padded (suc m) (suc k) = drop_padded m k

zeros_padded : (m k : ℕ) (l : List ℤ) → length l ≤ k → zeros (drop m (padded k l)) ≡ zeros (drop m l)
unfolding zeros padded
zeros_padded zero k [] h = drop_padded zero k
zeros_padded (suc m) k [] h = drop_padded (suc m) k
zeros_padded zero zero (z ∷ l) h = absurd (omega arith)
zeros_padded zero (suc k) (z ∷ l) h = ap (λ (b : Bool). compare_is_eq (cmp_ℤ z (pos 0)) && b) (zeros_padded zero k l (omega arith))
zeros_padded (suc m) zero (z ∷ l) h = absurd (omega arith)
zeros_padded (suc m) (suc k) (z ∷ l) h = zeros_padded m k l (omega arith)

second : (a b : Bool) → (a && b) ≡ true → b ≡ true
second true b e = e
second false b e = clash (sym e)

and_true : (b : Bool) → b ≡ (b && true)
and_true true = refl
and_true false = refl

and_false : (b : Bool) → false ≡ (b && false)
and_false true = refl
and_false false = refl

module _ (B : List ℕ) where
  zeros_turn : (at k : ℕ) → 0 < k → zeros (signed_from B at k) ≡ (eqb (word_at B at) 0 && zeros (signed_from B (at + 4) (k - 1)))
  unfolding zeros signed_from
  zeros_turn at zero h = absurd (omega arith)
  zeros_turn at (suc k) h =
      let e : suc k - 1 ≡ k = omega arith in
      ap₂ ◌&&◌ (zero_word (word_at B at)) (ap (λ (j : ℕ). zeros (signed_from B (at + 4) j)) (sym e))

  zeros_done : (at k : ℕ) → k ≤ 0 → zeros (signed_from B at k) ≡ true
  unfolding zeros signed_from
  zeros_done at zero h = refl
  zeros_done at (suc k) h = absurd (omega arith)

  -- k numbers, of which those from m on are zero
  module _ (at k : ℕ) where
    abbrev pub zero_from : ℕ → Bool
    zero_from m = zeros (signed_from B (at + m * 4) (k - m))

    pub zero_past : (m : ℕ) → k ≤ m → zero_from m ≡ true
    zero_past m h = zeros_done (at + m * 4) (k - m) (omega arith)

    pub zero_turn : (m : ℕ) → m < k → zero_from m ≡ (eqb (word_at B (at + m * 4)) 0 && zero_from (suc m))
    zero_turn m h =
        let e : at + m * 4 + 4 ≡ at + suc m * 4 = omega arith in
        let f : k - m - 1 ≡ k - suc m = omega arith in
        zeros_turn (at + m * 4) (k - m) (omega arith) ∙ ap₂ (λ (i j : ℕ). eqb (word_at B (at + m * 4)) 0 && zeros (signed_from B i j)) e f

    zero_next : (m : ℕ) → zero_from m ≡ true → zero_from (suc m) ≡ true
    zero_next m e = by_test (ltb m k) (λ _. zero_from (suc m) ≡ true)
        (λ t. second (eqb (word_at B (at + m * 4)) 0) (zero_from (suc m)) (sym (zero_turn m (ltb→lt m k t)) ∙ e))
        (λ t. zero_past (suc m) (let h = nltb→le m k t in omega arith))

    zero_on : (m d : ℕ) → zero_from m ≡ true → zero_from (m + d) ≡ true
    zero_on m zero e = let f : m ≡ m + 0 = omega arith in ap zero_from (sym f) ∙ e
    zero_on m (suc d) e = let f : m + suc d ≡ suc (m + d) = omega arith in ap zero_from f ∙ zero_next (m + d) (zero_on m d e)

    zero_behind : (n m : ℕ) → n ≤ m → zero_from n ≡ true → zero_from m ≡ true
    zero_behind n m h e = let f : m ≡ n + (m - n) = omega arith in ap zero_from f ∙ zero_on n (m - n) e

    pub zero_last : (n : ℕ) → 0 < n → n ≤ k → (word_at B (at + (n - 1) * 4) ≡ 0 → ⊥) → zero_from (n - 1) ≡ false
    zero_last n h i f = zero_turn (n - 1) (omega arith) ∙ ap (λ (b : Bool). b && zero_from (suc (n - 1))) (ne_eqb _ 0 f)

    pub zero_more : (n : ℕ) → 0 < n → n ≤ k → word_at B (at + (n - 1) * 4) ≡ 0 → zero_from n ≡ true → zero_from (n - 1) ≡ true
    zero_more n h i e z = let g : suc (n - 1) ≡ n = omega arith in zero_turn (n - 1) (omega arith) ∙ ap₂ ◌&&◌ (eq-eqb _ 0 e) (ap zero_from g ∙ z)

    -- n is one more than the last that is not zero, or 0
    pub last_used : (n m : ℕ) → zero_from n ≡ true → (0 < n → zero_from (n - 1) ≡ false) → ltb m n ≡ not (zero_from m)
    last_used n m e f = by_test (ltb m n) (λ b. b ≡ not (zero_from m))
        (λ t. let h = ltb→lt m n t in by_eq (zero_from m) (λ b. true ≡ not b)
        (λ z. clash (sym (zero_behind m (n - 1) (omega arith) z) ∙ f (omega arith))) (λ _. refl))
        (λ t. ap not (sym (zero_behind n m (nltb→le m n t) e)))

  drop_none : (m : ℕ) → drop {A = ℤ} m [] ≡ []
  drop_none zero = refl
  drop_none (suc m) = refl

  -- without the first m
  coeffs_from : (m at k : ℕ) → drop m (signed_from B at k) ≡ signed_from B (at + m * 4) (k - m)
  unfolding signed_from
  coeffs_from zero at k =
      let e : at ≡ at + 0 * 4 = omega arith in
      let f : k ≡ k - 0 = omega arith in
      ap₂ (λ (i j : ℕ). signed_from B i j) e f
  coeffs_from (suc m) at zero = let e : 0 ≡ 0 - suc m = omega arith in drop_none (suc m) ∙ ap (signed_from B (at + suc m * 4)) e
  coeffs_from (suc m) at (suc k) =
      let e : at + 4 + m * 4 ≡ at + suc m * 4 = omega arith in
      let f : suc k - suc m ≡ k - m = omega arith in
      rw f (coeffs_from m (at + 4) k ∙ ap (λ (i : ℕ). signed_from B i (k - m)) e)

  signed_length : (at k : ℕ) → length (signed_from B at k) ≡ k
  unfolding signed_from
  signed_length at zero = refl
  signed_length at (suc k) = ap suc (signed_length (at + 4) k)

  module _ (form : Form) where
    abbrev levels : ℕ
    levels = levels_in form

    -- what the form has no coefficients for is zero
    coeffs_padded : (m at : ℕ) → zeros (drop m (linear_in form B at).coeffs) ≡ zeros (drop m (signed_from B at levels))
    unfolding linear_in
    coeffs_padded m at = zeros_padded m levels_most (signed_from B at levels) (let h = levels_within form in omega (arith, signed_length at levels))

    beyond_from : (m at : ℕ) → not (zeros (signed_from B (at + m * 4) (levels - m))) ≡ beyond m (linear_in form B at)
    unfolding beyond
    beyond_from m at = ap not (ap zeros (sym (coeffs_from m at levels)) ∙ sym (coeffs_padded m at))

    pub used_from : (at k n m : ℕ) → k ≡ levels → zero_from at k n ≡ true → (0 < n → zero_from at k (n - 1) ≡ false) → ltb m n ≡ beyond m (linear_in form B at)
    used_from at k n m h e f = last_used at k n m e f ∙ ap (λ (j : ℕ). not (zero_from at j m)) h ∙ beyond_from m at

    pub weight_only : (w at : ℕ) (z : Bool) → z ≡ zeros (linear_in form B at).coeffs
        → true ≡ (le_z (pos 0) (signed (word_at B (at + levels * 4))) && le_z (signed (word_at B (at + levels * 4))) (pos w)) → z ≡ is_weight w (linear_in form B at)
    unfolding is_weight linear_in
    weight_only w at z e f = and_true z ∙ ap₂ ◌&&◌ e f

    pub no_weight : (w at : ℕ) → false ≡ (le_z (pos 0) (signed (word_at B (at + levels * 4))) && le_z (signed (word_at B (at + levels * 4))) (pos w)) → false ≡ is_weight w (linear_in form B at)
    unfolding is_weight linear_in
    no_weight w at f = and_false (zeros (linear_in form B at).coeffs) ∙ ap (λ (b : Bool). zeros (linear_in form B at).coeffs && b) f

-- a linear of which no coefficient counts is constant
pub none_used : (P : Linear) (n : ℕ) → ((m : ℕ) → ltb m n ≡ beyond m P) → eqb n 0 ≡ zeros P.coeffs
unfolding beyond
none_used P n f = by_test (ltb 0 n) (λ b. b ≡ not (zeros P.coeffs) → eqb n 0 ≡ zeros P.coeffs)
    (λ t e. ne_eqb n 0 (let h = ltb→lt 0 n t in λ z. omega arith) ∙ twice_not (zeros P.coeffs) (sym e))
    (λ t e. eq-eqb n 0 (let h = nltb→le 0 n t in omega arith) ∙ sym (not_not_true (zeros P.coeffs) (sym e))) (f 0)
  where
    twice_not : (b : Bool) → not b ≡ true → false ≡ b
    twice_not true e = clash (sym e)
    twice_not false e = refl

    not_not_true : (b : Bool) → not b ≡ false → b ≡ true
    not_not_true true e = refl
    not_not_true false e = clash e

pub weight_word : (w n : ℕ) → w < 256 → leb n w ≡ (le_z (pos 0) (signed n) && le_z (signed n) (pos w))
unfolding signed
weight_word w n h = by_test (ltb n 2147483648) (λ b. leb n w ≡ (le_z (pos 0) (if b (pos n) (negsuc (4294967295 - n))) && le_z (if b (pos n) (negsuc (4294967295 - n))) (pos w)))
    (λ _. ap (λ (b : Bool). b && leb n w) (sym (le-leb 0 n (omega arith)))) (λ t. lt-leb n w (let k = nltb→le n 2147483648 t in omega arith))

pub bounds : (n k : ℕ) → T (among n k) → (1 ≤ k) × (k ≤ n)
unfolding among
bounds n k t = let b = both (leb 1 k) (leb k n) t in (leb→le 1 k b.0, leb→le k n b.1)

pub is_among : (n k : ℕ) → 1 ≤ k → k ≤ n → T (among n k)
unfolding among
is_among n k h₁ h₂ = rw (le-leb 1 k h₁, le-leb k n h₂) tt

pub true_T : (b : Bool) → b ≡ true → T b
true_T b e = rw e tt

pub not_false_T : (b : Bool) → not b ≡ false → T b
not_false_T true e = tt
not_false_T false e = absurd (let z : ◌≡◌ {A = ℕ} 0 1 = cc in omega arith)

-- a condition of this step is none of the next step's
pub next_low : (n k : ℕ) → k ≤ conditions_most → or (among n k) (next_condition n k) ≡ among n k
unfolding next_condition
next_low n k h = rw (le-ltb conditions_most k h) (go (among n k))
  where
    go : (b : Bool) → or b false ≡ b
    go true = refl
    go false = refl

pub next_high : (n k : ℕ) → conditions_most < k → next_condition n k ≡ among n (k - conditions_most)
unfolding next_condition
next_high n k h = rw (lt-ltb conditions_most k h)
