-- Products and sums of two words by their 32-bit halves, each carrying into the next.
use mathlib.Core.Path.{◌≡◌, ◌∙◌}
use Prim.Native.Nat.{ℕ, ◌+◌, ◌*◌, ◌/◌, ◌%◌, ◌≤◌, ◌<◌}
use native.Mathlib.Nat.{div-add-mod', mul-le-mul_right}
use native.Mathlib.Omega.{arith}
use Rattle.whole.specs.Numerator.{word}
use Rattle.whole_division.specs.Words.{two_words}

-- 2³²
abbrev pub half : ℕ
half = 4294967296

-- a half times a half, with what is carried in
pub digit : (x w k : ℕ) → x < half → w < half → k < half → x * w + k < word
digit x w k h i j = let m = mul-le-mul_right w (least h) in omega arith
  where
    least : x < half → x ≤ 4294967295
    least h = omega arith

-- what is carried out of it
pub carry : (n : ℕ) → n < word → n / half < half
carry n h = omega arith

-- two halves in one word, and what is carried on
word_of : (x y k : ℕ) → let p = y + k in let q = x + p / half in q / half * word + (q % half * half + p % half) ≡ x * half + y + k
word_of x y k = omega arith

-- two words in one number
two_of : (h l m c high low : ℕ) → c * word + low ≡ l → m * word + high ≡ h + c → two_words (two_words m high) low ≡ h * word + l
two_of h l m c high low e f = rw f (omega arith)

module _ (a b c e : ℕ) (d : ℕ) where
  abbrev first : ℕ
  first = e + d

  abbrev second : ℕ
  second = c + first / half

  abbrev third : ℕ
  third = b + second / half

  abbrev fourth : ℕ
  fourth = a + third / half

  -- four halves, each with what the one before it carries
  pub chained : two_words (two_words (fourth / half) (fourth % half * half + third % half)) (second % half * half + first % half) ≡ (a * half + b) * word + (c * half + e + d)
  chained = two_of (a * half + b) (c * half + e + d) (fourth / half) (second / half) (fourth % half * half + third % half) (second % half * half + first % half)
      (word_of c e d) (word_of a b (second / half))

module _ (high low w d : ℕ) where
  spread : (high / half * w * half + high % half * w) * word + (low / half * w * half + low % half * w + d) ≡ two_words high low * w + d
  spread = regroup (high / half) (high % half) (low / half) (low % half) w d ∙ (λ i. (div-add-mod' high half i * word + div-add-mod' low half i) * w + d)
    where
      regroup : (a b c e w d : ℕ) → (a * w * half + b * w) * word + (c * w * half + e * w + d) ≡ ((a * half + b) * word + (c * half + e)) * w + d
      regroup a b c e w d = omega arith

  pub product_is : let p = low % half * w + d in let q = low / half * w + p / half in let r = high % half * w + q / half in let s = high / half * w + r / half in
      two_words (two_words (s / half) (s % half * half + r % half)) (q % half * half + p % half) ≡ two_words high low * w + d
  product_is = chained (high / half * w) (high % half * w) (low / half * w) (low % half * w) d ∙ spread

module _ (high low h l d : ℕ) where
  pub sum_is : let p = low % half + l % half + d in let q = low / half + l / half + p / half in let r = high % half + h % half + q / half in let s = high / half + h / half + r / half in
      two_words (two_words (s / half) (s % half * half + r % half)) (q % half * half + p % half) ≡ two_words high low + two_words h l + d
  sum_is = chained (high / half + h / half) (high % half + h % half) (low / half + l / half) (low % half + l % half) d
      ∙ regroup (high / half) (high % half) (low / half) (low % half) (h / half) (h % half) (l / half) (l % half) d
      ∙ (λ i. (div-add-mod' high half i * word + div-add-mod' low half i) + (div-add-mod' h half i * word + div-add-mod' l half i) + d)
    where
      regroup : (a b c e f g j k d : ℕ) → ((a + f) * half + (b + g)) * word + ((c + j) * half + (e + k) + d) ≡ (a * half + b) * word + (c * half + e) + ((f * half + g) * word + (j * half + k)) + d
      regroup a b c e f g j k d = omega arith

-- what is carried from half to half stays one
module _ (high low w d : ℕ) (h : high < word) (l : low < word) (v : w < half) (e : d < half) where
  pub one : low % half * w + d < word
  one = digit (low % half) w d (omega arith) v e

  pub two : low / half * w + (low % half * w + d) / half < word
  two = digit (low / half) w _ (carry low l) v (carry _ one)

  pub three : high % half * w + (low / half * w + (low % half * w + d) / half) / half < word
  three = digit (high % half) w _ (omega arith) v (carry _ two)

  pub four : high / half * w + (high % half * w + (low / half * w + (low % half * w + d) / half) / half) / half < word
  four = digit (high / half) w _ (carry high h) v (carry _ three)

-- the same of sums
sums : (x y k : ℕ) → x < half → y < half → k < half → (x + y + k < word) × ((x + y + k) / half < half)
sums x y k h i j = (omega arith, omega arith)

module _ (high low h l d : ℕ) (a : high < word) (b : low < word) (e : h < word) (f : l < word) (g : d < half) where
  second_half : (low / half + l / half + (low % half + l % half + d) / half) / half < half
  second_half = (sums (low / half) (l / half) _ (carry low b) (carry l f) (sums (low % half) (l % half) d (omega arith) (omega arith) g).1).1

  third_half : (high % half + h % half + (low / half + l / half + (low % half + l % half + d) / half) / half < word) × ((high % half + h % half + (low / half + l / half + (low % half + l % half + d) / half) / half) / half < half)
  third_half = sums (high % half) (h % half) _ (omega arith) (omega arith) second_half

  pub third_sum : high % half + h % half + (low / half + l / half + (low % half + l % half + d) / half) / half < word
  third_sum = third_half.0

  pub fourth_sum : high / half + h / half + (high % half + h % half + (low / half + l / half + (low % half + l % half + d) / half) / half) / half < word
  fourth_sum = (sums (high / half) (h / half) _ (carry high a) (carry h e) third_half.1).0
