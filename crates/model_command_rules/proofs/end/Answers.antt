-- `model_command_rules::end` meets its contract.
use mathlib.Core.Path.{sym, ◌∙◌}
use Rattle.model_command_rules.proofs.RuleTests.{later_end, end_missing, end_held, end_done}
use Rattle.model_command_rules.proofs.end.Goals as goal

pub returns-then-not-complete : goal.returns-then-not-complete
returns-then-not-complete c = λ p st. end_missing _ c.args.s.seen.len (sym c.complete.ensures ∙ c.if-not-complete.true) ∙ later_end st

pub returns-then-s-gt0 : goal.returns-then-s-gt0
returns-then-s-gt0 c = λ p st. end_held _ c.args.s.seen.len (sym c.complete.ensures ∙ c.if-not-complete.false) c.if-s-gt0.true ∙ later_end st

pub returns-else-s-gt0 : goal.returns-else-s-gt0
returns-else-s-gt0 c = λ p st. end_done _ c.args.s.seen.len (sym c.complete.ensures ∙ c.if-not-complete.false) c.if-s-gt0.false ∙ later_end st
