-- `plain_leaf::offsets::top` meets its contract.
use native.Mathlib.Omega.{arith}
use Rattle.model_stack.proofs.Stacked.{top_more, top_none}
use Rattle.plain_leaf.proofs.offsets.top.Goals as goal

pub returns-then-len-eq0 : goal.returns-then-len-eq0
returns-then-len-eq0 c = top_none c.args.items.now c.args.len (omega (arith, c.if-len-eq0.true))

pub returns : goal.returns
returns c = top_more c.args.items.now c.args.len (omega (arith, c.if-len-eq0.false))
