use Rattle.import_walk.proofs.Loops.{ahead_in, ahead_out}
use Rattle.import_walk.proofs.steps.ahead.Goals as goal

pub returns-then-n-left : goal.returns-then-n-left
returns-then-n-left c = ahead_in _ _ _ c.requires c.if-n-left.true

pub returns-else-n-left : goal.returns-else-n-left
returns-else-n-left c = ahead_out _ _ _ c.requires c.if-n-left.false
