-- `model_progress::operands::index` meets its contract.
use mathlib.Core.Path.{ap₂, ◌∙◌}
use Rattle.theory.specs.Valid.{among}
use borrow.Author.Rules.{rules}
use Rattle.model_progress.proofs.operands.index.Goals as goal

pub returns-in-32 : goal.returns-in-32
returns-in-32 c = rw c.in-32.is

pub returns-in-33 : goal.returns-in-33
returns-in-33 c = rw c.in-33.is (c.among.ensures ∙ ap₂ among c.from.ensures c.from-in-33.ensures)

pub returns-in-34 : goal.returns-in-34
returns-in-34 c = rw c.in-34.is (c.among-in-34.ensures ∙ ap₂ among c.from-in-34.ensures c.from-in-34-2.ensures)

pub returns-in_default : goal.returns-in_default
returns-in_default c = search rules
