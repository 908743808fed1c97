-- `plain_evaluate::chance_at` meets its contract.
use mathlib.Core.Path.{refl, ap, ◌∙◌}
use mir.Syntax.{w64}
use mir.ValLaws.{to_z-of_z}
use Rattle.whole.specs.Int.{up}
use Rattle.plain_pass.specs.Pass.{slot_of}
use Rattle.plain_pass.proofs.Turns.{chance_is}
use Rattle.plain_evaluate.proofs.chance_at.Goals as goal

pub returns : goal.returns
returns c = λ s z st. c.weight.ensures ∙ (ap up (to_z-of_z w64 _ (record { sfits = c.leaf_constant.type_inv }) ∙ c.leaf_constant.ensures) ∙ chance_is
    c.args.model.now (slot_of c.args.g) c.args.x _ c.found_at.ensures s z st _ refl)
