-- `model_command::number` meets its contract.
use mathlib.Core.Path.{ap, ◌∙◌}
use mir.Syntax.{w32, w64}
use mir.ValLaws.{to_z-of_z}
use Rattle.theory.specs.Command.{signed}
use Rattle.model_command.proofs.Signed.{as_signed}
use Rattle.model_command.proofs.number.Goals as goal

pub returns : goal.returns
returns c = to_z-of_z w64 _ (record { sfits = c.from.type_inv }) ∙ c.from.ensures
    ∙ to_z-of_z w32 _ (record { sfits = c.cast_signed.type_inv }) ∙ c.cast_signed.ensures ∙ as_signed _ ∙ ap signed c.word.ensures
