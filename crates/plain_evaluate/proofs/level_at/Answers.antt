-- `plain_evaluate::level_at` meets its contract.
use mathlib.Core.Path.{refl, ap, ◌∙◌}
use Rattle.whole.specs.Numerator.{words}
use Rattle.plain_pass.specs.Pass.{slot_of}
use Rattle.plain_pass.proofs.Turns.{level_is}
use Rattle.plain_evaluate.proofs.level_at.Goals as goal

pub leaf_numerator-requires : goal.leaf_numerator-requires
leaf_numerator-requires c = c.requires.4

pub returns : goal.returns
returns c = λ s z st. c.leaf_numerator.ensures ∙ (ap words
    (level_is c.args.model.now (slot_of c.args.g) c.args.x _ c.found_at.ensures s z st _ refl))
