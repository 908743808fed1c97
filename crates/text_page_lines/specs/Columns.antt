-- "Each line is exactly 50 columns and a line end .. so nothing is ever cut": how wide a number and a line are.
use Rattle.std.specs.Prelude.{List, ℕ, ◌^◌, ◌≤◌, ◌<◌, ℤ, nat_abs, length}
use Rattle.theory.specs.Widths.{name_bytes}

-- what a line can hold: steps of one digit, a value of 29 digits, a name of 16 bytes
pub record FittingLine (h : ℕ) (z : ℤ) (t : List ℕ) : Type 0 where
  pub steps : h < 10
  pub value : nat_abs z < 10 ^ 29
  pub name : length t ≤ name_bytes
