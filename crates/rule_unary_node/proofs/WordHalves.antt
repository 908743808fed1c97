-- An i64 in two halves, and the numbers of a leaf as the code computes them.
use mathlib.Core.Path.{◌≡◌, refl, ap, ◌∙◌}
use Prim.Native.Nat.{ℕ, ◌+◌, ◌*◌, ◌/◌, ◌%◌, ◌^◌, ◌<◌}
use native.Mathlib.Omega.{arith}
use lib.IntN.{ℤ}
use mir.Syntax.{w64}
use mir.Val.{SFits, to_z, of_z}
use mir.ValLaws.{to_z-of_z, of_z_fits}
use Rattle.whole.proofs.Signed.{R, back}
use Rattle.rule_node.specs.EntryMeaning.{from_halves}
use Rattle.rule_unary_node.specs.Acts.{low_of, high_of}

halves_sum : (n : ℕ) → n / 4294967296 * 4294967296 + n % 4294967296 ≡ n
halves_sum n = omega arith

-- the halves give the number back
pub halves : (c : ℤ) → SFits w64 c → from_halves (low_of c) (high_of c) ≡ c
unfolding from_halves low_of high_of
halves c f = ap (to_z w64) (halves_sum (of_z w64 c)) ∙ to_z-of_z w64 c f

half_lt : (n : ℕ) → n < 2 ^ 64 → n / 4294967296 < 4294967296
half_lt n h = omega arith

rest_lt : (n : ℕ) → n % 4294967296 < 4294967296
rest_lt n = omega arith

pub low_lt : (c : ℤ) → low_of c < 4294967296
unfolding low_of
low_lt c = rest_lt (of_z w64 c)

pub high_lt : (c : ℤ) → SFits w64 c → high_of c < 4294967296
unfolding high_of
high_lt c f = half_lt (of_z w64 c) (of_z_fits w64 c f).fits

-- ---- the bits of a number

pub low_is : (c : ℤ) {n : ℕ} → SFits w64 c → n ≡ of_z w64 (R c) → n % 4294967296 ≡ low_of c
unfolding low_of
low_is c f e = ap (λ (n : ℕ). n % 4294967296) (e ∙ ap (of_z w64) (back c f))

pub high_is : (c : ℤ) {n : ℕ} → SFits w64 c → n ≡ of_z w64 (R c) → n / 4294967296 ≡ high_of c
unfolding high_of
high_is c f e = ap (λ (n : ℕ). n / 4294967296) (e ∙ ap (of_z w64) (back c f))

-- ---- a number from its bits n

pub number_plain : (p q : ℕ) → to_z w64 (q * 4294967296 + p) ≡ from_halves p q
unfolding from_halves
number_plain p q = refl
