use mathlib.Core.Path.{◌∙◌}
use Rattle.table.proofs.Words.{back}
use Rattle.rule_unary_node.proofs.WordHalves.{number_plain}
use Rattle.rule_unary_node.proofs.halves.number_of.Goals as goal

pub returns : goal.returns
returns c = back c.cast_signed.result c.cast_signed.type_inv ∙ (c.cast_signed.ensures ∙ number_plain c.args.p c.args.q)
