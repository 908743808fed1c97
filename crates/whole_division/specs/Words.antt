-- Whole numbers in two words of 64 bits.
use Rattle.std.specs.Prelude.{◌≡◌, ℕ, ◌+◌, ◌*◌, ◌/◌, ◌%◌, ℤ, pos, negsuc}
use Rattle.whole.specs.Cases.{if}
use Rattle.whole.specs.Numerator.{word}
use Rattle.whole_division.specs.declared.Whole.{Whole}
use Rattle.whole_division.specs.declared.Quotient.{Quotient}

-- high × 2⁶⁴ + low
abbrev pub two_words : ℕ → ℕ → ℕ
two_words high low = high * word + low

-- the number that the code holds: below zero by its complement
abbrev pub whole_as : Whole → ℤ
whole_as x = if x.below (negsuc (two_words x.high x.low)) (pos (two_words x.high x.low))

-- q has the quotient and the remainder of n by d
pub record Divided (n d : ℕ) (q : Quotient) : Type 0 where
  pub quotient : two_words q.high q.low ≡ n / d
  pub rest : q.rest ≡ n % d
