-- "Each line is exactly 50 columns and a line end .. so nothing is ever cut": how wide a number and a line are.
use Rattle.std.specs.Prelude.{◌≡◌, refl, Bool, true, false, not, List, [], ◌∷◌, ◌++◌, ℕ, zero, suc, ◌+◌, ◌-◌, ◌/◌, ◌%◌, ◌^◌, ◌≤◌, ◌<◌, eqb, ltb, ℤ, pos, negsuc, nat_abs, length, replicate}
use Rattle.std.proofs.Common.{ap, pow-suc, arith, ne_eqb, ltb→lt, nltb→le, length-append}
use Rattle.std.proofs.Math.Nat.{pow-zero}
use Rattle.std.proofs.lemmas.List.{length-replicate}
use Rattle.whole.specs.Cases.{if, by_test}
use Rattle.theory.specs.Listing.{digits}
use Rattle.text_page_lines.specs.Page.{in_decimal, right, left, value_text, page_line}
use Rattle.text_page_lines.specs.Columns.{FittingLine}

-- ---- digits

abbrev last : ℕ → List ℕ
last x = (48 + x % 10) ∷ []

-- any number of digits that is enough
digits_enough : (j k x : ℕ) → x ≤ j → x ≤ k → digits j x ≡ digits k x
unfolding digits
digits_enough zero zero x g h = refl
digits_enough zero (suc k) x g h = by_test (ltb x 10) (λ b. last x ≡ if b (last x) (digits k (x / 10) ++ last x)) (λ _. refl) (λ t. absurd (omega (arith, nltb→le x 10 t)))
digits_enough (suc j) zero x g h = by_test (ltb x 10) (λ b. if b (last x) (digits j (x / 10) ++ last x) ≡ last x) (λ _. refl) (λ t. absurd (omega (arith, nltb→le x 10 t)))
digits_enough (suc j) (suc k) x g h = by_test (ltb x 10) (λ b. if b (last x) (digits j (x / 10) ++ last x) ≡ if b (last x) (digits k (x / 10) ++ last x)) (λ _. refl)
    (λ t. let m = nltb→le x 10 t in ap (λ (l : List ℕ). l ++ last x) (digits_enough j k (x / 10) (omega arith) (omega arith)))

-- the digits in front of the last, none where nothing is left
abbrev pub front : Bool → ℕ → List ℕ
front more x = if more (digits x x) []

pub digits_split : (x : ℕ) → digits x x ≡ front (not (eqb (x / 10) 0)) (x / 10) ++ last x
unfolding digits
digits_split zero = refl
digits_split (suc k) = by_test (ltb (suc k) 10) (λ b. if b (last (suc k)) (digits k (suc k / 10) ++ last (suc k)) ≡ front (not (eqb (suc k / 10) 0)) (suc k / 10) ++ last (suc k))
    (λ t. let m = ltb→lt (suc k) 10 t in let e : suc k / 10 ≡ 0 = omega arith in rw e)
    (λ t. let m = nltb→le (suc k) 10 t in go (suc k / 10) (λ e. omega arith) (omega arith))
  where
    go : (y : ℕ) → (y ≡ 0 → ⊥) → y ≤ k → digits k y ++ last (suc k) ≡ front (not (eqb y 0)) y ++ last (suc k)
    go y h m = rw (ne_eqb y 0 h) (ap (λ (l : List ℕ). l ++ last (suc k)) (digits_enough k y y m (omega arith)))

-- a tenth
pub tenth_below : (k x : ℕ) → x < 10 ^ suc k → x / 10 < 10 ^ k
tenth_below k x h = omega (arith, pow-suc 10 k)

-- a number below 10ᵏ has at most k digits, 0 one
pub digits_most : (k x : ℕ) → x < 10 ^ suc k → length (digits x x) ≤ suc k
digits_most zero x h = let e : x / 10 ≡ 0 = omega (arith, tenth_below 0 x h, pow-zero 10) in rw (digits_split x, e) (omega arith)
digits_most (suc k) x h = rw (digits_split x) (front_most (not (eqb (x / 10) 0)) (digits_most k (x / 10) (tenth_below (suc k) x h)))
  where
    front_most : (b : Bool) → length (digits (x / 10) (x / 10)) ≤ suc k → length (front b (x / 10) ++ last x) ≤ suc (suc k)
    front_most true m = omega (arith, length-append (digits (x / 10) (x / 10)) (last x))
    front_most false m = omega arith

-- a number below 10²⁹ has at most 29 digits and a sign
pub decimal_most : (z : ℤ) → nat_abs z < 10 ^ 29 → length (in_decimal z) ≤ 30
unfolding in_decimal
decimal_most (pos n) h = omega (arith, digits_most 28 n h)
decimal_most (negsuc n) h = omega (arith, digits_most 28 (suc n) h)

-- nor is what stands for a value longer
pub text_most : (a : ℕ) (z : ℤ) → nat_abs z < 10 ^ 29 → length (value_text a z) ≤ 30
unfolding value_text
text_most a z h = by_test (eqb a 0) (λ b. length (if b (110 ∷ 111 ∷ 110 ∷ 101 ∷ []) (in_decimal z)) ≤ 30) (λ _. omega arith) (λ _. decimal_most z h)

-- ---- columns

pub right_length : (k : ℕ) (s : List ℕ) → length s ≤ k → length (right k s) ≡ k
unfolding right
right_length k s h = omega (arith, length-append (replicate (k - length s) 32) s, length-replicate {A = ℕ} (k - length s) 32)

pub left_length : (k : ℕ) (s : List ℕ) → length s ≤ k → length (left k s) ≡ k
unfolding left
left_length k s h = omega (arith, length-append s (replicate (k - length s) 32), length-replicate {A = ℕ} (k - length s) 32)

-- "exactly 50 columns and a line end"
pub line_length : (n : ℕ) {h : ℕ} {z : ℤ} {t : List ℕ} → FittingLine h z t → length (page_line h n z t) ≡ 51
unfolding page_line in_decimal
line_length n {h} {z} {t} f =
    let a = right 2 (in_decimal (pos h)) in
    let b = right 30 (value_text n z) in
    let c = left 16 t in
    omega (
      arith,
      length-append (a ++ (32 ∷ [])) ((b ++ (32 ∷ [])) ++ (c ++ (10 ∷ []))),
      length-append (b ++ (32 ∷ [])) (c ++ (10 ∷ [])),
      length-append a (32 ∷ []),
      length-append b (32 ∷ []),
      length-append c (10 ∷ []),
      right_length 2 (in_decimal (pos h)) (omega (arith, digits_most 0 h (omega (arith, f.steps, pow-suc 10 0, pow-zero 10)))),
      right_length 30 (value_text n z) (text_most n z f.value),
      left_length 16 t f.name,
    )
