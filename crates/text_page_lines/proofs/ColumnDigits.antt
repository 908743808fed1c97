-- A column filled from the right: digits from the last to the first, then the sign.
use mathlib.Core.Path.{◌≡◌, refl, sym, ap, ap₂, ◌∙◌}
use mathlib.Core.Bool.{Bool, true, false, not}
use mathlib.Core.List.{List, [], ◌∷◌, ◌++◌, append_assoc}
use Prim.Native.Nat.{ℕ, zero, suc, ◌+◌, ◌-◌, ◌/◌, ◌%◌, ◌^◌, ◌≤◌, ◌<◌}
use native.Mathlib.Nat.{pow-zero}
use native.Mathlib.Omega.{arith}
use borrow.Author.Tests.{eq-eqb, ne_eqb}
use borrow.Rule.Slice.PartMut.{put_mid}
use lib.Dec.{eqb}
use lib.IntN.{ℤ, pos, negsuc, nat_abs}
use lib.ListN.{length, set, replicate, length-append, length-replicate, replicate-append-replicate}
use lib.Seq.{set_at}
use Rattle.whole.specs.Cases.{if}
use Rattle.theory.specs.Listing.{digits}
use Rattle.whole_division.specs.declared.Quotient.{Quotient}
use Rattle.whole_division.specs.declared.Whole.{Whole}
use Rattle.whole_division.specs.Words.{two_words, whole_as, Divided}
use Rattle.text_page_lines.specs.Page.{in_decimal, right, value_text}
use Rattle.text_page_lines.proofs.LineWidth.{front, digits_split, tenth_below}

-- ---- the magnitude

module _ (x : Whole) where
  pub magnitude_plain : x.below ≡ false → two_words x.high x.low ≡ nat_abs (whole_as x)
  magnitude_plain e = sym (ap (λ (b : Bool). nat_abs (if b (negsuc (two_words x.high x.low)) (pos (two_words x.high x.low)))) e)

  pub magnitude_below : x.below ≡ true → suc (two_words x.high x.low) ≡ nat_abs (whole_as x)
  magnitude_below e = sym (ap (λ (b : Bool). nat_abs (if b (negsuc (two_words x.high x.low)) (pos (two_words x.high x.low)))) e)

-- ---- a turn of the loop

-- the columns from `at` on are filled, and y is what is left of x in front of them
pub record Filled (x : ℕ) (out : List ℕ) (at y : ℕ) (more : Bool) : Type 0 where
  pub tail : List ℕ
  pub is : out ≡ replicate at 32 ++ tail
  pub long : at + length tail ≡ 31
  pub text : front more y ++ tail ≡ digits x x ++ (32 ∷ [])
  pub small : y < 10 ^ (at - 1)
  pub room : 1 ≤ at
  pub some : more ≡ true → 2 ≤ at

pub fill_starts : {x y : ℕ} {out : List ℕ} → out ≡ replicate 31 32 → y ≡ x → x < 10 ^ 29 → Filled x out 30 y true
fill_starts {x} {y} e g h = record {
  tail = 32 ∷ [];
  is = e ∙ sym (replicate-append-replicate 30 1 32);
  long = refl;
  text = ap (λ (n : ℕ). digits n n ++ (32 ∷ [])) g;
  small = rw g h;
  room = omega arith;
  some = λ t. omega arith;
}

-- one column more, from the right
set_column : (at : ℕ) (out tail : List ℕ) (d : ℕ) → 1 ≤ at → out ≡ replicate at 32 ++ tail → set out (at - 1) d ≡ replicate (at - 1) 32 ++ (d ∷ tail)
set_column at out tail d h e =
    let n : at ≡ at - 1 + 1 = omega arith in
    ap (λ (l : List ℕ). set l (at - 1) d) (e ∙ ap (λ (k : ℕ). replicate k 32 ++ tail) n ∙ ap (λ (l : List ℕ). l ++ tail) (sym (replicate-append-replicate (at - 1) 1 32)) ∙ append_assoc (replicate (at - 1) 32) (32 ∷ []) tail)
    ∙ set_at (replicate (at - 1) 32) 32 tail d (at - 1) (length-replicate {A = ℕ} (at - 1) 32)

some_left : (k y : ℕ) {b : Bool} → b ≡ not (eqb y 0) → b ≡ true → y < 10 ^ k → 1 ≤ k
some_left zero zero e t h = absurd (let z : ◌≡◌ {A = ℕ} 0 1 = cc in omega arith)
some_left zero (suc y) e t h = absurd (omega (arith, pow-zero 10))
some_left (suc k) y e t h = omega arith

pub fill_more : {x y at : ℕ} {out : List ℕ} {more b : Bool} {q : Quotient} → Filled x out at y more → more ≡ true → Divided y 10 q → b ≡ not (eqb (two_words q.high q.low) 0)
    → Filled x (set out (at - 1) (48 + q.rest)) (at - 1) (two_words q.high q.low) b
fill_more {x} {y} {at} {out} {more} {b} {q} w t d e =
    let n : ℕ = two_words q.high q.low in
    let l = w.some t in
    let c : b ≡ not (eqb (y / 10) 0) = e ∙ ap (λ (k : ℕ). not (eqb k 0)) d.quotient in
    let s : at - 1 ≡ suc (at - 1 - 1) = omega arith in
    let m : n < 10 ^ (at - 1 - 1) = rw d.quotient (tenth_below (at - 1 - 1) y (rw (← s) w.small)) in
    let o = some_left (at - 1 - 1) n e in
    record {
      tail = (48 + q.rest) ∷ w.tail;
      is = set_column at out w.tail (48 + q.rest) w.room w.is;
      long = omega (arith, w.long);
      text =
          ap₂ (λ (b : Bool) (k : ℕ). front b k ++ ((48 + q.rest) ∷ w.tail)) c d.quotient
          ∙ sym (append_assoc (front (not (eqb (y / 10) 0)) (y / 10)) ((48 + q.rest) ∷ []) w.tail)
          ∙ ap (λ (k : ℕ). (front (not (eqb (y / 10) 0)) (y / 10) ++ ((48 + k) ∷ [])) ++ w.tail) d.rest
          ∙ ap (λ (l : List ℕ). l ++ w.tail) (sym (digits_split y))
          ∙ ap (λ (b : Bool). front b y ++ w.tail) (sym t)
          ∙ w.text;
      small = m;
      room = omega arith;
      some = λ u. omega (arith, o u m);
    }

-- ---- the column

right_is : (at : ℕ) (s : List ℕ) → at + length (s ++ (32 ∷ [])) ≡ 31 → replicate at 32 ++ (s ++ (32 ∷ [])) ≡ right 30 s ++ (32 ∷ [])
unfolding right
right_is at s h =
    let e : at ≡ 30 - length s = omega (arith, length-append s (32 ∷ [])) in
    sym (append_assoc (replicate at 32) s (32 ∷ [])) ∙ ap (λ (k : ℕ). (replicate k 32 ++ s) ++ (32 ∷ [])) e

plain_decimal : (b : Bool) (k : ℕ) → b ≡ false → digits (nat_abs (if b (negsuc k) (pos k))) (nat_abs (if b (negsuc k) (pos k))) ≡ in_decimal (if b (negsuc k) (pos k))
unfolding in_decimal
plain_decimal false k e = refl
plain_decimal true k e = absurd (let z : ◌≡◌ {A = ℕ} 0 1 = cc in omega arith)

below_decimal : (b : Bool) (k : ℕ) → b ≡ true → 45 ∷ digits (nat_abs (if b (negsuc k) (pos k))) (nat_abs (if b (negsuc k) (pos k))) ≡ in_decimal (if b (negsuc k) (pos k))
unfolding in_decimal
below_decimal true k e = refl
below_decimal false k e = absurd (let z : ◌≡◌ {A = ℕ} 0 1 = cc in omega arith)

module _ (x : Whole) {out : List ℕ} {at y : ℕ} {more : Bool} (w : Filled (nat_abs (whole_as x)) out at y more) (t : more ≡ false) where
  tail_is : w.tail ≡ digits (nat_abs (whole_as x)) (nat_abs (whole_as x)) ++ (32 ∷ [])
  tail_is = ap (λ (b : Bool). front b y ++ w.tail) (sym t) ∙ w.text

  pub column_plain : x.below ≡ false → out ≡ right 30 (in_decimal (whole_as x)) ++ (32 ∷ [])
  column_plain e =
      let d = plain_decimal x.below (two_words x.high x.low) e in
      let s : w.tail ≡ in_decimal (whole_as x) ++ (32 ∷ []) = tail_is ∙ ap (λ (l : List ℕ). l ++ (32 ∷ [])) d in
      w.is ∙ ap (λ (l : List ℕ). replicate at 32 ++ l) s ∙ right_is at (in_decimal (whole_as x)) (omega (arith, w.long, ap length s))

  pub column_below : x.below ≡ true → set out (at - 1) 45 ≡ right 30 (in_decimal (whole_as x)) ++ (32 ∷ [])
  column_below e =
      let d = below_decimal x.below (two_words x.high x.low) e in
      let s : 45 ∷ w.tail ≡ in_decimal (whole_as x) ++ (32 ∷ []) = ap (λ (l : List ℕ). 45 ∷ l) tail_is ∙ ap (λ (l : List ℕ). l ++ (32 ∷ [])) d in
      set_column at out w.tail 45 w.room w.is ∙ ap (λ (l : List ℕ). replicate (at - 1) 32 ++ l) s ∙ right_is (at - 1) (in_decimal (whole_as x)) (omega (arith, w.long, w.room, ap length s))

-- ---- a value with its action

pub none_are : {out part : List ℕ} → out ≡ replicate 31 32 → part ≡ 110 ∷ 111 ∷ 110 ∷ 101 ∷ [] → put_mid 26 4 out part ≡ right 30 (110 ∷ 111 ∷ 110 ∷ 101 ∷ []) ++ (32 ∷ [])
unfolding right
none_are e p = λ i. put_mid 26 4 (e i) (p i)

module _ (a : ℕ) (z : ℤ) {out : List ℕ} where
  pub as_none : a ≡ 0 → out ≡ right 30 (110 ∷ 111 ∷ 110 ∷ 101 ∷ []) ++ (32 ∷ []) → out ≡ right 30 (value_text a z) ++ (32 ∷ [])
  unfolding value_text
  as_none e p = rw (eq-eqb a 0 e) p

  pub as_number : (a ≡ 0 → ⊥) → out ≡ right 30 (in_decimal z) ++ (32 ∷ []) → out ≡ right 30 (value_text a z) ++ (32 ∷ [])
  unfolding value_text
  as_number e p = rw (ne_eqb a 0 e) p

-- ---- steps

pub steps_are : (h : ℕ) → h < 10 → 32 ∷ (48 + h) ∷ 32 ∷ [] ≡ right 2 (in_decimal (pos h)) ++ (32 ∷ [])
unfolding right in_decimal
steps_are h k =
    let e : h / 10 ≡ 0 = omega arith in
    let m : h % 10 ≡ h = omega arith in
    let d : digits h h ≡ (48 + h) ∷ [] = digits_split h ∙ rw (e, m) in
    rw d

pub zero_words : (high low : ℕ) → high ≡ 0 → not (eqb low 0) ≡ not (eqb (two_words high low) 0)
zero_words high low e = let d : low ≡ two_words high low = omega arith in ap (λ (n : ℕ). not (eqb n 0)) d

pub some_words : (high low : ℕ) → (high ≡ 0 → ⊥) → true ≡ not (eqb (two_words high low) 0)
some_words high low f = sym (ap not (ne_eqb (two_words high low) 0 (λ e. f (omega arith))))
