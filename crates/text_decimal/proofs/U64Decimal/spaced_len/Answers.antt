use native.Mathlib.Omega.{arith}
use mathlib.Core.Path.{ap}
use lib.ListN.{length}
use Rattle.text_decimal.proofs.Numbers.{spaced_plain}
use Rattle.text_decimal.proofs.U64Decimal.spaced_len.Goals as goal

pub returns : goal.returns
returns c = (omega (arith, ap length (spaced_plain c.args.self), c.digits_len.ensures.0), omega (arith, c.digits_len.ensures.1))
