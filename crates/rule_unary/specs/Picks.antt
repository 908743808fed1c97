-- What a side is asked with.
use Rattle.std.specs.Prelude.{ℕ, ◌≤◌, ◌<◌}
use Rattle.theory.specs.Widths.{conditions_most}
use Rattle.rule_node.specs.Codes.{yes_side_code, no_side_code}

-- a side of condition p
pub record Picks (op p : ℕ) : Type 0 where
  pub from : yes_side_code ≤ op
  pub to : op ≤ no_side_code
  pub some : 0 < p
  pub most : p ≤ conditions_most
