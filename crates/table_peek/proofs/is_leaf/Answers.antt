use mathlib.Core.Path.{sym}
use Rattle.table.proofs.Leaf.{leaf_told}
use Rattle.table_peek.proofs.is_leaf.Goals as goal

pub returns : goal.returns
returns c = sym (leaf_told c.args.x.kind c.struct_told-1.given.0.1 c.is_leaf.ensures)
