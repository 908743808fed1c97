-- `plain_leaf::offsets::pop` meets its contract.
use Rattle.plain_pass.proofs.PassWords.{popped_held}
use Rattle.plain_leaf.proofs.offsets.pop.Goals as goal

pub returns : goal.returns
returns c = rw c.saturating_sub.ensures (popped_held c.args.items.now c.args.len c.requires)
