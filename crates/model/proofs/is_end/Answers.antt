-- `model::is_end` meets its contract.
use mathlib.Core.Path.{ap, sym}
use Rattle.model.specs.Answers.{is_end}
use Rattle.model.proofs.Walk.{not_end}
use Rattle.model.proofs.is_end.Goals as goal

pub returns-in-End : goal.returns-in-End
unfolding is_end
returns-in-End c = ap is_end (sym c.in-End.is)

pub returns-in_default : goal.returns-in_default
returns-in_default c = not_end c.args.c c.in_default.not-End
