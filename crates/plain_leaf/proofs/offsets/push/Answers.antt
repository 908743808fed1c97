-- `plain_leaf::offsets::push` meets its contract.
use Rattle.plain_pass.proofs.PassWords.{more_held, full_held}
use Rattle.plain_leaf.proofs.offsets.push.Goals as goal

pub returns-then-len-lt-STACK_MOST : goal.returns-then-len-lt-STACK_MOST
returns-then-len-lt-STACK_MOST c = more_held c.args.items.now c.args.len c.requires c.args.at c.if-len-lt-STACK_MOST.true

pub returns : goal.returns
returns c = full_held c.args.items.now c.args.len c.requires c.args.at c.if-len-lt-STACK_MOST.false
