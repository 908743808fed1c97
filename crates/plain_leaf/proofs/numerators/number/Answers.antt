-- `plain_leaf::numerators::number` meets its contract.
use mathlib.Core.Path.{ap, ◌∙◌}
use mir.Syntax.{w64}
use mir.ValLaws.{to_z-of_z}
use Rattle.theory.specs.Command.{signed}
use Rattle.whole.proofs.Signed.{back32}
use Rattle.plain_pass.proofs.Halves.{cast_is}
use Rattle.plain_leaf.proofs.numerators.number.Goals as goal

pub returns : goal.returns
returns c = to_z-of_z w64 _ (record { sfits = c.from.type_inv }) ∙ c.from.ensures ∙ back32 _ (record { sfits = c.cast_signed.type_inv }) ∙ c.cast_signed.ensures
    ∙ cast_is _ c.word.type_inv ∙ ap signed c.word.ensures
