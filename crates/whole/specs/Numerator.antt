-- A whole number in two 64-bit words: the low one unsigned, the high one signed.
use Rattle.std.specs.Prelude.{ℕ, ◌-◌, ◌/◌, ◌%◌, ℤ, pos, negsuc, ◌+ℤ◌, ◌*ℤ◌}
use Rattle.whole.specs.declared.Numerator.{Numerator}

-- 2⁶⁴
abbrev pub word : ℕ
word = 18446744073709551616

-- the number that two words hold: high × 2⁶⁴ + low
unfoldable pub number : Numerator → ℤ
number x = x.high *ℤ pos word +ℤ pos x.low

-- the two words of a number: low = z mod 2⁶⁴, high = ⌊z ÷ 2⁶⁴⌋
unfoldable pub words : ℤ → Numerator
words (pos n) = record { low = n % word; high = pos (n / word) }
words (negsuc n) = record { low = word - 1 - n % word; high = negsuc (n / word) }
