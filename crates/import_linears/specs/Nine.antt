-- Linears as nine numbers, the constant as the last.
use Rattle.std.specs.Prelude.{◌≡◌, Bool, true, List, [], ◌∷◌, ℕ, ◌-◌, ltb, ℤ, pos, length, get_or, set}
use Rattle.whole.specs.Cases.{if}
use Rattle.whole.specs.Linears.{coefficients, numbers, clip_list, eq_list}
use Rattle.import_numbers.specs.Numbers.{all_within}

-- 2³¹ − 1
abbrev pub most : ℕ
most = 2147483647

-- nine numbers, and all within 32 bits
pub record Nine (l : List ℤ) : Type 0 where
  pub long : length l ≡ numbers
  pub within : all_within l ≡ true

-- ---- linears as nine numbers

abbrev pub constant9 : ℤ → List ℤ
constant9 z = pos 0 ∷ pos 0 ∷ pos 0 ∷ pos 0 ∷ pos 0 ∷ pos 0 ∷ pos 0 ∷ pos 0 ∷ z ∷ []

unfoldable pub level9 : ℕ → List ℤ
level9 k = if (ltb k 49) (constant9 (pos 0)) (if (ltb 56 k) (constant9 (pos 0)) (set (constant9 (pos 0)) (k - 49) (pos 1)))

abbrev pub last : List ℤ → ℤ
last l = get_or l coefficients (pos 0)

-- no coefficient but 0
unfoldable pub flat : List ℤ → Bool
flat l = eq_list l (constant9 (last l))

-- a product of which one factor is a constant
unfoldable pub multiplied : List ℤ → List ℤ → List ℤ
multiplied p q = if (flat p) (clip_list (last p) q) (clip_list (last q) p)
