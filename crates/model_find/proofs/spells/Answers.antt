-- `model_find::spells` meets its contract.
use mathlib.Core.Path.{◌∙◌}
use Rattle.model_find.proofs.Pass.{spelt}
use Rattle.model_find.proofs.spells.Goals as goal

pub returns : goal.returns
returns c = c.eq.ensures ∙ spelt c.args.model.now c.args.from c.args.name.now c.trimmed_len-size.result c.requires c.trimmed_len-size.ensures.1
