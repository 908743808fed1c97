-- A row of a lent table, as a node; rows are numbered from 1, nodes from 0.
use Rattle.std.specs.Prelude.{◌≡◌, Bool, false, List, ℕ, suc, ◌<◌, ℤ, nat_abs}
use Rattle.whole.specs.Cases.{if}
use Rattle.table.specs.Table.{is_leaf}
use Rattle.table.specs.declared.Node.{Node}
use Rattle.rule_node.specs.Nodes.{Valid}
use Rattle.prune_paths.specs.Prune.{high_at, low_at}

-- the branches of the row at index i are rows 1 to i
pub record RowFits (x : Node) (i : ℕ) : Type 0 where
  pub valid : Valid x (suc i)
  pub some : is_leaf x.kind ≡ false → (0 < nat_abs x.high) × (0 < nat_abs x.low)

-- row r's branch, the high one or the low one
unfoldable pub branch_at : List ℤ → ℕ → Bool → ℕ
branch_at W r high = if high (high_at W r) (low_at W r)
