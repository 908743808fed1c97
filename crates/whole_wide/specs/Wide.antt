-- "a numerator outside two words": whole numbers judged against them, and the wider ones that the code holds on the way.
use Rattle.std.specs.Prelude.{◌≡◌, Bool, ◌&&◌, ℕ, ◌≤◌, ℤ, pos, negsuc, Option, Some, None}
use Rattle.std.specs.Int.Signed.{le_z, mag}
use Rattle.whole.specs.Cases.{if}
use Rattle.whole.specs.Numerator.{words}
use Rattle.whole.specs.declared.Numerator.{Numerator}
use Rattle.whole_division.specs.declared.Whole.{Whole}
use Rattle.whole_division.specs.Words.{two_words, whole_as}
use Rattle.whole_wide.specs.declared.Carried.{Carried}

-- 2¹²⁷ and 2¹²⁸, of sizes: n has the size n, and so has −n − 1 (`mag`)
abbrev pub outside_from : ℕ
outside_from = 170141183460469231731687303715884105728

abbrev pub beyond_from : ℕ
beyond_from = 340282366920938463463374607431768211456

-- −2¹²⁷ to 2¹²⁷ − 1: what two words hold
unfoldable pub in_two_words : ℤ → Bool
in_two_words z = le_z (negsuc 170141183460469231731687303715884105727) z && le_z z (pos 170141183460469231731687303715884105727)

-- z in two words, where it lies within them
unfoldable pub fitted : ℤ → Option Numerator
fitted z = if (in_two_words z) (Some (words z)) None

-- ---- on the way

abbrev pub carried : Carried → ℕ
carried r = two_words (two_words r.carry r.high) r.low

-- x holds z, or there is none and the size of z is b at least
abbrev pub Holds : ℕ → ℤ → Option Whole → Type 0
Holds b z (Some x) = whole_as x ≡ z
Holds b z None = b ≤ mag z
