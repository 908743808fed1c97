-- `model_facts::Seen::none` meets its contract.
use mathlib.Core.Path.{refl}
use Rattle.model_facts.specs.Seen.{seen_in}
use Rattle.model_facts.proofs.Seen.none.Goals as goal

pub returns : goal.returns
unfolding seen_in
returns c = refl
