use Rattle.finish_arrange.proofs.Perm.{swap_is}
use Rattle.finish_arrange.proofs.swap_nodes.Goals as goal

pub returns : goal.returns
returns c = swap_is c.args.nodes.now c.args.k c.args.p c.get-x.ensures c.get-y.ensures c.put.ensures c.put-2.ensures
