-- `prune_rows::branch` meets its contract.
use Rattle.prune_rows.proofs.Branches.{high_read, low_read}
use Rattle.prune_rows.proofs.branch.Goals as goal

pub returns-then-high : goal.returns-then-high
returns-then-high c = high_read c.args.nodes.now c.args.r c.get-x.ensures c.if-high.true c.high.ensures

pub returns : goal.returns
returns c = low_read c.args.nodes.now c.args.r c.get-x.ensures c.if-high.false c.low.ensures
