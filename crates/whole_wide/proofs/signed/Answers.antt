-- `whole_wide::signed` meets its contract.
use Rattle.whole_wide.proofs.Signs.{signed_some, signed_none}
use Rattle.whole_wide.proofs.signed.Goals as goal

pub returns-then-n-eq0 : goal.returns-then-n-eq0
returns-then-n-eq0 c = signed_some c.args.below c.args.n c.if-n-eq0.true

pub returns-else-n-eq0 : goal.returns-else-n-eq0
returns-else-n-eq0 c = signed_none c.args.below c.args.n c.if-n-eq0.false
