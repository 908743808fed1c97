use Rattle.table.proofs.Words.{same_as}
use Rattle.table.proofs.same.Goals as goal

pub returns : goal.returns
returns c = same_as c.args.x c.args.y c.eq.ensures
