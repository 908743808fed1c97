-- Products and sums with their signs: a number below zero is held by its complement.
use mathlib.Core.Path.{◌≡◌, refl, sym, ap, ap₂, ◌∙◌}
use mathlib.Core.Bool.{Bool, true, false}
use Prim.Native.Nat.{ℕ, zero, suc, ◌+◌, ◌-◌, ◌*◌, ◌≤◌, ◌<◌}
use native.Mathlib.Nat.{mul-le-mul_left, mul-le-mul_right}
use native.Mathlib.Omega.{arith}
use lib.IntN.{ℤ, pos, negsuc, ◌+ℤ◌, ◌*ℤ◌}
use lib.Signed.{mag}
use Rattle.whole.specs.Cases.{if}
use Rattle.whole.specs.Int.{up, down, atom, diff, dif_negsuc}
use Rattle.whole.specs.Numerator.{word}
use Rattle.whole_division.specs.declared.Whole.{Whole}
use Rattle.whole_division.specs.Words.{two_words, whole_as}
use Rattle.whole_wide.specs.declared.Carried.{Carried}
use Rattle.whole_wide.specs.Wide.{beyond_from, carried}

-- n, or its complement
abbrev signed : Bool → ℕ → ℤ
signed b n = if b (negsuc n) (pos n)

signed_size : (b : Bool) (n : ℕ) → mag (signed b n) ≡ n
signed_size true n = refl
signed_size false n = refl

le_trans : (a b c : ℕ) → a ≤ b → b ≤ c → a ≤ c
le_trans a b c h k = omega arith

le_more : (a b c : ℕ) → a ≤ b → a ≤ b + c
le_more a b c h = omega arith

-- ---- the carry

-- what carries is 2¹²⁸ at least
pub carries : (c h l : ℕ) → 1 ≤ c → beyond_from ≤ two_words (two_words c h) l
carries c h l k = le_more beyond_from (two_words c h * word) l (mul-le-mul_right word (least c h k))
  where
    least : (c h : ℕ) → 1 ≤ c → word ≤ two_words c h
    least c h k = omega arith

no_carry : (c h l : ℕ) → c ≡ 0 → two_words (two_words c h) l ≡ two_words h l
no_carry c h l e = ap (λ (c : ℕ). two_words (two_words c h) l) e ∙ ap (λ (h : ℕ). two_words h l) nothing
  where
    nothing : 0 * word + h ≡ h
    nothing = omega arith

-- a sign with words that may carry
module _ (b : Bool) (p : Carried) where
  pub signed_some : p.carry ≡ 0 → signed b (two_words p.high p.low) ≡ signed b (carried p)
  signed_some e = ap (signed b) (sym (no_carry p.carry p.high p.low e))

  pub signed_none : (p.carry ≡ 0 → ⊥) → beyond_from ≤ mag (signed b (carried p))
  signed_none n = rw (signed_size b (carried p)) (carries p.carry p.high p.low (omega arith))

-- ---- products

below_times : (n v : ℕ) → negsuc n *ℤ pos (suc v) ≡ negsuc (n * suc v + v)
below_times n v = simp (diff, dif_negsuc) (omega arith)

times_is : (b : Bool) (n w : ℕ) → 0 < w → signed b n *ℤ pos w ≡ signed b (n * w + if b (w - 1) 0)
times_is false n w k = ap pos (omega arith)
times_is true n zero k = absurd (omega arith)
times_is true n (suc v) k = below_times n v ∙ ap negsuc (more n v)
  where
    more : (n v : ℕ) → n * suc v + v ≡ n * suc v + (suc v - 1)
    more n v = omega arith

-- a product is no smaller
pub times_size : (z : ℤ) (w : ℕ) → 0 < w → mag z ≤ mag (z *ℤ pos w)
times_size (pos n) w k = omega (arith, mul-le-mul_left n k)
times_size (negsuc n) zero k = absurd (omega arith)
times_size (negsuc n) (suc v) k = rw (below_times n v) (omega arith)

pub times_holds : (x : Whole) (w d : ℕ) (p : Carried) → 0 < w → d ≡ if x.below (w - 1) 0 → carried p ≡ two_words x.high x.low * w + d
    → signed x.below (carried p) ≡ whole_as x *ℤ pos w
times_holds x w d p k e f =
    let n : ℕ = two_words x.high x.low in
    ap (signed x.below) (f ∙ ap (λ (d : ℕ). n * w + d) e) ∙ sym (times_is x.below n w k)

-- ---- sums

sum_is : (b : Bool) (n m : ℕ) → signed b n +ℤ signed b m ≡ signed b (n + m + if b 1 0)
sum_is false n m = ap pos (omega arith)
sum_is true n m = ap negsuc (omega arith)

pub alike_holds : (x y : Whole) (d : ℕ) (p : Carried) → x.below ≡ y.below → d ≡ if x.below 1 0
    → carried p ≡ two_words x.high x.low + two_words y.high y.low + d
    → signed x.below (carried p) ≡ whole_as x +ℤ whole_as y
alike_holds x y d p s e f =
    let n : ℕ = two_words x.high x.low in
    let m : ℕ = two_words y.high y.low in
    ap (signed x.below) (f ∙ ap (λ (d : ℕ). n + m + d) e) ∙ sym (sum_is x.below n m) ∙ ap (λ (b : Bool). signed x.below n +ℤ signed b m) s

-- the words that a complement leaves
complement : (h l : ℕ) → h < word → l < word → two_words h l + two_words (18446744073709551615 - h) (18446744073709551615 - l) + 1 ≡ beyond_from
complement h l a b = regroup h (18446744073709551615 - h) l (18446744073709551615 - l) ∙ (λ i. p i * word + q i + 1)
  where
    regroup : (a b c d : ℕ) → a * word + c + (b * word + d) + 1 ≡ (a + b) * word + (c + d) + 1
    regroup a b c d = omega arith

    p : h + (18446744073709551615 - h) ≡ 18446744073709551615
    p = omega arith

    q : l + (18446744073709551615 - l) ≡ 18446744073709551615
    q = omega arith

split : (c h l : ℕ) → two_words (two_words c h) l ≡ c * beyond_from + two_words h l
split c h l = regroup c word h l
  where
    regroup : (c w h l : ℕ) → (c * w + h) * w + l ≡ c * (w * w) + (h * w + l)
    regroup c w h l = omega arith

larger : (n m k s c B : ℕ) → m + k + 1 ≡ B → n < B → 1 ≤ c → c * B + s ≡ n + k + 0 → n ≡ m + suc s
larger n m k s zero B e b i f = absurd (omega arith)
larger n m k s (suc zero) B e b i f = omega arith
larger n m k s (suc (suc c)) B e b i f = absurd (omega arith)

smaller : (n m k s t B : ℕ) → m + k + 1 ≡ B → s + t + 1 ≡ B → s ≡ n + k + 0 → m ≡ n + t
smaller n m k s t B e f g = omega arith

sum_of : (x y s : ℤ) → up x + up y + down s ≡ up s + (down x + down y) → x +ℤ y ≡ s
sum_of x y s e = rw (← atom x, ← atom y, ← atom s) (simp diff (omega arith))

difference : (n m s : ℕ) → n ≡ m + suc s → pos n +ℤ negsuc m ≡ pos s
difference n m s e = sum_of (pos n) (negsuc m) (pos s) (omega arith)

difference_below : (n m t : ℕ) → m ≡ n + t → pos n +ℤ negsuc m ≡ negsuc t
difference_below n m t e = sum_of (pos n) (negsuc m) (negsuc t) (omega arith)

in_words : (h l : ℕ) → h < word → l < word → two_words h l < beyond_from
in_words h l a b = less (h * word) (18446744073709551615 * word) l word (mul-le-mul_right word (top h a)) b
  where
    top : (h : ℕ) → h < word → h ≤ 18446744073709551615
    top h a = omega arith

    less : (p q l w : ℕ) → p ≤ q → l < w → p + l < q + w
    less p q l w h k = omega arith

module _ (x y : Whole) (p : Carried) (s : x.below ≡ false) (t : y.below ≡ true)
    (a : x.high < word) (b : x.low < word) (c : y.high < word) (d : y.low < word) (e : p.high < word) (f : p.low < word)
    (g : carried p ≡ two_words x.high x.low + two_words (18446744073709551615 - y.high) (18446744073709551615 - y.low) + 0) where
  abbrev n : ℕ
  n = two_words x.high x.low

  abbrev m : ℕ
  m = two_words y.high y.low

  abbrev k : ℕ
  k = two_words (18446744073709551615 - y.high) (18446744073709551615 - y.low)

  reads : pos n +ℤ negsuc m ≡ whole_as x +ℤ whole_as y
  reads = ap₂ (λ (u v : Bool). signed u n +ℤ signed v m) (sym s) (sym t)

  pub across_above : (p.carry ≡ 0 → ⊥) → pos (two_words p.high p.low) ≡ whole_as x +ℤ whole_as y
  across_above i = sym (difference n m (two_words p.high p.low)
      (larger n m k (two_words p.high p.low) p.carry beyond_from (complement y.high y.low c d) (in_words x.high x.low a b) (some p.carry i) (sym (split p.carry p.high p.low) ∙ g)))
      ∙ reads
    where
      some : (n : ℕ) → (n ≡ 0 → ⊥) → 1 ≤ n
      some n i = omega arith

  pub across_below : p.carry ≡ 0 → negsuc (two_words (18446744073709551615 - p.high) (18446744073709551615 - p.low)) ≡ whole_as x +ℤ whole_as y
  across_below i = sym (difference_below n m (two_words (18446744073709551615 - p.high) (18446744073709551615 - p.low))
      (smaller n m k (two_words p.high p.low) (two_words (18446744073709551615 - p.high) (18446744073709551615 - p.low)) beyond_from
      (complement y.high y.low c d) (complement p.high p.low e f) (sym (no_carry p.carry p.high p.low i) ∙ g)))
      ∙ reads

-- a size of 2 × o does not come back from what is below o
pub far : (o : ℕ) (z v : ℤ) → o + o ≤ mag z → mag v < o → o ≤ mag (z +ℤ v)
far o (pos n) (pos m) h k = omega arith
far o (pos n) (negsuc m) h k = rw (difference n m (n - suc m) (omega arith)) (omega arith)
far o (negsuc n) (pos m) h k = rw (turned n m (n - m) (omega arith)) (omega arith)
  where
    turned : (n m t : ℕ) → n ≡ m + t → negsuc n +ℤ pos m ≡ negsuc t
    turned n m t e = sum_of (negsuc n) (pos m) (negsuc t) (omega arith)
far o (negsuc n) (negsuc m) h k = omega arith
