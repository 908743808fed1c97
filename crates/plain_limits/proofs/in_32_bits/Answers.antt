-- `plain_limits::in_32_bits` meets its contract.
use mathlib.Core.Path.{◌∙◌}
use Rattle.plain_limits.proofs.Judge.{not_within, within_judged}
use Rattle.whole.specs.Numerator.{number}
use borrow.Author.Rules.{rules}
use Rattle.plain_limits.proofs.in_32_bits.Goals as goal

pub returns-in_err-narrow : goal.returns-in_err-narrow
returns-in_err-narrow c = c.from_residual.ensures ∙ not_within (number c.args.x) c.narrow.ensures c.in_err-narrow.was

pub returns : goal.returns
returns c = within_judged (number c.args.x) c.narrow.ensures _ c.in_ok-narrow.was (search rules) c.judged.ensures
