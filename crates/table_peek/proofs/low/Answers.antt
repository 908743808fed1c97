use Rattle.whole.proofs.Signed.{abs_back}
use Rattle.table_peek.proofs.low.Goals as goal

pub returns : goal.returns
returns c = abs_back c.args.x.low (record { sfits = c.struct_told-1.given.1.1.1.0.1 }) c.mag.ensures
