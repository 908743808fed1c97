-- `value_walk::walks::is_yes` meets its contract.
use mathlib.Core.Path.{ap, ◌∙◌}
use native.Mathlib.Omega.{arith}
use Rattle.theory.specs.Meaning.{nth}
use Rattle.theory.specs.Value.{bits}
use Rattle.value_walk.proofs.Down.{among_abs}
use Rattle.value_walk.proofs.walks.is_yes.Goals as goal

pub overflow_cast-magnitude : goal.overflow_cast-magnitude
overflow_cast-magnitude c = let p = among_abs c.args.n _ c.requires.1 in omega arith

pub condition-requires : goal.condition-requires
condition-requires c = let p = among_abs c.args.n _ c.requires.1 in omega arith

pub returns : goal.returns
returns c = c.condition.ensures ∙ ap (nth (bits c.args.n c.args.q.mask)) c.magnitude.ensures
