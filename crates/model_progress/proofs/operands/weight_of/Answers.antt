-- `model_progress::operands::weight_of` meets its contract.
use mathlib.Core.Path.{ap, ◌∙◌}
use lib.Dec.{leb}
use native.Mathlib.Omega.{arith}
use Rattle.model_progress.proofs.Numbers.{weight_word}
use Rattle.model_progress.proofs.operands.weight_of.Goals as goal

pub returns : goal.returns
returns c = ap (leb c.args.n) c.from.ensures ∙ weight_word c.args.w c.args.n (omega (arith, c.ranges.w))
