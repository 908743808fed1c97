use native.Mathlib.Omega.{arith}
use Rattle.whole.proofs.Signed.{plain}
use Rattle.import_linears.proofs.Laws.{as_constant}
use Rattle.import_linears.proofs.constant.Goals as goal

pub returns : goal.returns
returns c = as_constant c.args.n (plain c.args.n (omega arith))
