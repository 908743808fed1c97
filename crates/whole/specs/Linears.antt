-- Lists of numbers: a linear's coefficients and its constant as the last, all of one length.
use Rattle.std.specs.Prelude.{◌≡◌, ℕ, suc, ◌+◌, Bool, true, false, ◌&&◌, List, [], ◌∷◌, map, length, take, ℤ, pos, negsuc, ◌+ℤ◌, ◌*ℤ◌, ◌==◌, int_div, slice_index_or, unsigned_abs}
use Prim.Native.Nat.{compare, Ordering}
use Rattle.whole.specs.Cases.{if}
use Rattle.whole.specs.Divisor.{gcd_of, gcd_all, at_least_one}
use Rattle.whole.specs.Within.{limit, Small, small}

-- a linear's coefficients, and its numbers: one more, the constant
abbrev pub coefficients : ℕ
coefficients = 8

abbrev pub numbers : ℕ
numbers = coefficients + 1

-- as many, and each lies within the limits
pub record Smalls (l : List ℤ) : Type 0 where
  pub long : length l ≡ numbers
  pub each : (k : ℕ) → Small (slice_index_or l k (pos 0))

unfoldable pub smalls : List ℤ → Bool
smalls [] = true
smalls (a ∷ r) = small a && smalls r

-- ---- sums, differences, products and quotients, number by number

unfoldable pub add_list : List ℤ → List ℤ → List ℤ
add_list [] bs = bs
add_list (a ∷ r) [] = a ∷ r
add_list (a ∷ r) (b ∷ bs) = (a +ℤ b) ∷ add_list r bs

unfoldable pub scale_list : ℤ → List ℤ → List ℤ
scale_list k [] = []
scale_list k (a ∷ r) = (k *ℤ a) ∷ scale_list k r

-- a - b
abbrev pub sub_list : List ℤ → List ℤ → List ℤ
sub_list a b = add_list a (scale_list (negsuc 0) b)

-- a number that lies within the limits as it is, and any other as the first beyond them
unfoldable pub clipped : ℤ → ℤ
clipped z = if (small z) z (pos (suc limit))

-- k × a, each number so
abbrev pub clip_list : ℤ → List ℤ → List ℤ
clip_list k a = map clipped (scale_list k a)

unfoldable pub quot_list : ℕ → List ℤ → List ℤ
quot_list g [] = []
quot_list g (a ∷ r) = int_div a (pos g) ∷ quot_list g r

-- the sum of the products
unfoldable pub dot_list : List ℤ → List ℤ → ℤ
dot_list [] bs = pos 0
dot_list (a ∷ r) [] = pos 0
dot_list (a ∷ r) (b ∷ bs) = (a *ℤ b) +ℤ dot_list r bs

-- what a test is divided by: the greatest common divisor of its numbers, 1 where all are 0
unfoldable pub divisor_list : List ℤ → ℕ
divisor_list l = at_least_one (gcd_of (unsigned_abs (slice_index_or l coefficients (pos 0))) (gcd_all (take coefficients l)))

-- ---- the order

-- by the first order, where it is equal by the second
abbrev pub then : Ordering → Ordering → Ordering
then Ordering.lt o = Ordering.lt
then Ordering.eq o = o
then Ordering.gt o = Ordering.gt

-- signed numbers, "smaller first"
abbrev pub cmp_ℤ : ℤ → ℤ → Ordering
cmp_ℤ (pos a) (pos b) = compare a b
cmp_ℤ (pos a) (negsuc b) = Ordering.gt
cmp_ℤ (negsuc a) (pos b) = Ordering.lt
cmp_ℤ (negsuc a) (negsuc b) = compare b a

-- number by number
unfoldable pub cmp_list : List ℤ → List ℤ → Ordering
cmp_list [] [] = Ordering.eq
cmp_list [] (b ∷ bs) = Ordering.lt
cmp_list (a ∷ r) [] = Ordering.gt
cmp_list (a ∷ r) (b ∷ bs) = then (cmp_ℤ a b) (cmp_list r bs)

-- smaller, equal, greater as 0, 1, 2
unfoldable pub ord_num : Ordering → ℕ
ord_num Ordering.lt = 0
ord_num Ordering.eq = 1
ord_num Ordering.gt = 2

-- ---- equality

unfoldable pub eq_ℤ : ℤ → ℤ → Bool
eq_ℤ (pos a) (pos b) = a == b
eq_ℤ (pos a) (negsuc b) = false
eq_ℤ (negsuc a) (pos b) = false
eq_ℤ (negsuc a) (negsuc b) = a == b

unfoldable pub eq_list : List ℤ → List ℤ → Bool
eq_list [] [] = true
eq_list [] (b ∷ bs) = false
eq_list (a ∷ r) [] = false
eq_list (a ∷ r) (b ∷ bs) = eq_ℤ a b && eq_list r bs
