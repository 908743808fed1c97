use mathlib.Core.Path.{refl}
use Rattle.rule_compose_entry.specs.Entry.{pair}
use Rattle.rule_compose_entry.proofs.pair_of.Goals as goal

pub returns : goal.returns
unfolding pair
returns c = refl
