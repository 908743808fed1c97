-- Numerators in two words: a number and its words, and what the sums of products say of a result.
use Rattle.std.specs.Prelude.{◌≡◌, ℕ, suc, ◌+◌, ◌-◌, ◌*◌, ◌/◌, ◌%◌, ◌<◌, ◌≤◌, ℤ, pos, negsuc, ◌+ℤ◌, ◌*ℤ◌, neg_ℤ, unsigned_abs}
use Rattle.std.proofs.Common.{sym, ap, ◌∙◌, div-add-mod', arith}
use Rattle.whole.specs.declared.Numerator.{Numerator}
use Rattle.whole.specs.Int.{diff, dif_negsuc}
use Rattle.whole.specs.Numerator.{word, number, words}

-- v with its sign turned where z is negative
abbrev pub turned : ℤ → ℤ → ℤ
turned (pos n) v = v
turned (negsuc n) v = neg_ℤ v

-- r is the product of two magnitudes
pub record Times (p q : ℕ) (r : Numerator) : Type 0 where
  pub is : number r ≡ pos (p * q)
  pub bounded : unsigned_abs r.high ≤ 536870912

-- r is the product z of a number within the limits and an i32
pub record Product (z : ℤ) (r : Numerator) : Type 0 where
  pub is : number r ≡ z
  pub bounded : unsigned_abs r.high ≤ 536870914

-- r is z, and its high word is at most one from that of x
pub record Turned (z : ℤ) (x r : Numerator) : Type 0 where
  pub is : number r ≡ z
  pub bounded : unsigned_abs r.high ≤ unsigned_abs x.high + 1

-- r is the sum of x and y
pub record SumOf (x y r : Numerator) : Type 0 where
  pub is : number r ≡ number x +ℤ number y
  pub low : r.low < word
  pub bounded : unsigned_abs r.high ≤ unsigned_abs x.high + unsigned_abs y.high + 1

-- ---- a number and its words

-- below 0
pub below : (m l n : ℕ) → m ≡ l + suc n → neg_ℤ (pos m) +ℤ pos l ≡ negsuc n
below m l n e = simp (diff, dif_negsuc) (omega arith)

-- the words of z hold z
pub number_words : (z : ℤ) → number (words z) ≡ z
unfolding number words
number_words (pos n) = ap pos (div-add-mod' n word)
number_words (negsuc n) = below (suc (n / word) * word) (word - 1 - n % word) n (omega arith)

-- the low word fits
pub words_low : (z : ℤ) → (words z).low < word
unfolding words
words_low (pos n) = omega arith
words_low (negsuc n) = omega arith

of_two : (l : ℕ) (h : ℤ) → l < word → words (h *ℤ pos word +ℤ pos l) ≡ record { low = l; high = h }
unfolding words
of_two l (pos k) b =
    let p : (k * word + l) % word ≡ l = omega arith in
    let q : (k * word + l) / word ≡ k = omega arith in
    λ i. record { low = p i; high = pos (q i) }
of_two l (negsuc k) b =
    let n : ℕ = k * word + (word - 1 - l) in
    let p : word - 1 - n % word ≡ l = omega arith in
    let q : n / word ≡ k = omega arith in
    ap words (below (suc k * word) l n (omega arith)) ∙ (λ i. record { low = p i; high = negsuc (q i) })

-- two words are those of the number that they hold
pub words_number : (x : Numerator) → x.low < word → words (number x) ≡ x
unfolding number
words_number x b = of_two x.low x.high b

-- words that hold z are its words
pub words_of : (x : Numerator) (z : ℤ) → x.low < word → number x ≡ z → x ≡ words z
words_of x z b e = sym (words_number x b) ∙ ap words e
