-- `table_peek::renumbered` meets its contract: a leaf stays; the branches of a valid node are below cap, so their forward words are there to be read.
use Prim.Native.Nat.{◌+◌}
use Rattle.table_peek.proofs.Renumber.{leaf_stays, branch_moves}
use Rattle.table_peek.proofs.renumbered.Goals as goal

pub returns-then-is_leaf : goal.returns-then-is_leaf
returns-then-is_leaf c = leaf_stays c.args.work.now c.args.cap c.args.x c.is_leaf.ensures c.if-is_leaf.true

pub returns : goal.returns
returns c = branch_moves c.args.work.now c.args.cap c.args.x c.is_leaf.ensures c.if-is_leaf.false c.requires.2
    c.struct_told-1.given.0.1 c.high.ensures c.low.ensures c.from.ensures c.from-2.ensures
    (c.type_inv.work (c.args.cap + c.high.result)).fits (c.type_inv.work (c.args.cap + c.low.result)).fits
