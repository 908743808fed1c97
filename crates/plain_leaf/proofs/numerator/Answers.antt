-- `plain_leaf::numerator` meets its contract.
use mathlib.Core.Path.{ap, ◌∙◌}
use native.Mathlib.Omega.{arith}
use Rattle.whole.specs.Numerator.{words}
use Rattle.plain_pass.proofs.Turns.{numerator_sum}
use Rattle.plain_leaf.proofs.numerator.Goals as goal

pub returns : goal.returns
returns c = c.dot.ensures ∙ ap words (numerator_sum c.args.p c.args.x.now c.requires.long (omega arith))
