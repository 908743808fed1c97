use Rattle.whole.proofs.Signed.{abs_back}
use Rattle.table_peek.proofs.high.Goals as goal

pub returns : goal.returns
returns c = abs_back c.args.x.high (record { sfits = c.struct_told-1.given.1.1.0.1 }) c.mag.ensures
