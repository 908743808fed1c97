-- The early refusals have numbers up to 10.
use Rattle.std.specs.Prelude.{List, ℕ, ◌≤◌}
use Rattle.std.proofs.Common.{arith}
use Rattle.theory.specs.Form.{new_form}
use Rattle.theory.specs.Rows.{EarlyRow, early_10, early_9, early_1_8}
use Rattle.theory.proofs.laws.Numbers.{verdict_most}

pub early_most : {B : List ℕ} {steps size k p : ℕ} → EarlyRow B steps size k p → k ≤ 10
early_most (early_10 f) = omega arith
early_most (early_9 e b f) = omega arith
early_most (early_1_8 e b h r a) = omega (arith, verdict_most new_form r)
