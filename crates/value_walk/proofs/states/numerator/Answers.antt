-- `value_walk::states::numerator` meets its contract.
use Rattle.value_walk.proofs.Linears.{row_small, numerator_is}
use Rattle.value_walk.proofs.states.numerator.Goals as goal

pub dot-requires : goal.dot-requires
dot-requires c = row_small c.args.nodes.now c.args.r c.requires.0 c.get.ensures c.requires.1

pub returns : goal.returns
returns c = numerator_is c.args.nodes.now c.args.r c.requires.0 c.get.ensures c.args.q c.well_formed.0.1.1.1.0.1.0.1 c.dot.ensures
