-- "No accepted reading has more than 29 digits and a sign, with eight levels too, so nothing is ever cut": of what readings.
use Rattle.std.specs.Prelude.{ℕ, pos, nat_abs, get_or, ◌≤◌}
use Rattle.theory.specs.Value.{Asked}

-- "signed 32-bit numerators and a signed 32-bit denominator"
pub record Signed32 (q : Asked) : Type 0 where
  pub nums : (i : ℕ) → nat_abs (get_or q.nums i (pos 0)) ≤ 2147483648
  pub den : nat_abs q.den ≤ 2147483648
