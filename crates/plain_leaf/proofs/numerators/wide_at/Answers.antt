-- `plain_leaf::numerators::wide_at` meets its contract.
use mathlib.Core.Path.{ap, ◌∙◌}
use Rattle.whole.specs.Numerator.{words}
use Rattle.theory.specs.Diagram.{Linear}
use Rattle.plain_pass.specs.Pass.{numerator}
use Rattle.plain_leaf.proofs.numerators.wide_at.Goals as goal

pub numerator-requires : goal.numerator-requires
numerator-requires c = c.linear_at.ensures.0

pub returns : goal.returns
returns c = c.numerator.ensures ∙ ap (λ (p : Linear). words (numerator c.args.x.now p)) c.linear_at.ensures.1
