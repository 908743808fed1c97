use Rattle.table.specs.Table.{node_at}
use Rattle.table.proofs.Leaf.{none_told}
use Rattle.table.proofs.none_at.Goals as goal

pub returns : goal.returns
unfolding node_at
returns c = none_told _ c.result-1.given
