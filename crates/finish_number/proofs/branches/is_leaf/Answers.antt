use mathlib.Core.Path.{sym}
use Rattle.table.specs.Table.{node_at}
use Rattle.table.proofs.Leaf.{leaf_told}
use Rattle.finish_number.proofs.branches.is_leaf.Goals as goal

pub returns : goal.returns
unfolding node_at
returns c = sym (leaf_told _ c.kind-1.given c.is_leaf.ensures)
