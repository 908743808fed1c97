use mathlib.Core.Path.{ap, ◌∙◌}
use native.Mathlib.Omega.{arith}
use Rattle.rule_compose_entry.specs.Entry.{pair}
use Rattle.rule_compose_entry.proofs.with_level.Goals as goal

pub pair_of-requires : goal.pair_of-requires
pair_of-requires c = (c.requires.0, omega (arith, c.level.ensures, c.requires.1.below c.args.k))

pub returns : goal.returns
returns c = c.pair_of.ensures ∙ ap (pair c.args.x) c.level.ensures
