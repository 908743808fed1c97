use mathlib.Core.Path.{ap, ◌∙◌}
use native.Mathlib.Omega.{arith}
use Prim.Native.Nat.{ℕ, ◌+◌}
use lib.ListN.{get_or}
use Rattle.rule_compose_entry.specs.Entry.{pair}
use Rattle.rule_compose_entry.proofs.two_levels.Goals as goal

pub with_level-requires : goal.with_level-requires
with_level-requires c = (omega (arith, c.level.ensures, c.requires.1.below c.args.k), c.requires.1)

pub returns : goal.returns
returns c = c.with_level.ensures ∙ ap (λ (x : ℕ). pair x (get_or c.args.levels.now (c.args.k + 1) 0)) c.level.ensures
