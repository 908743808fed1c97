-- Two linears that differ by a constant.
use Rattle.std.specs.Prelude.{ℕ, ◌+◌, ◌*◌, ◌≤◌, List, ℤ, pos, length}
use Rattle.std.specs.Int.Signed.{le_z}
use Rattle.whole.specs.Cases.{if}
use Rattle.whole.specs.Within.{small}
use Rattle.table.specs.declared.Stop.TheVariants.{Over}
use Rattle.table.specs.Table.{Answer, made, halted, node_words, node_at}
use Rattle.rule_node.specs.Nodes.{Nums}

-- a node's numbers can be read, and two of them subtracted
pub record AtNumbers (l : List ℤ) (i : ℕ) : Type 0 where
  pub words : i * node_words + node_words ≤ length l
  pub nums : Nums (node_at l i)

-- what is answered of leaves f and g in a table of n nodes, g being d more than f: the better one, the first where they are equal, and 11 where d is beyond the limits
unfoldable pub better_constant : ℕ → ℕ → ℕ → ℤ → Answer
better_constant n f g d = if (small d) (made (if (le_z d (pos 0)) f g) n) (halted Over n)
