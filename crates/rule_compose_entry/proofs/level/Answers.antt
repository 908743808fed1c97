use mathlib.Core.Path.{sym}
use native.Mathlib.Omega.{arith}
use lib.ListN.{get_or-eq_default}
use Rattle.rule_compose_entry.proofs.level.Goals as goal

pub bounds-levels-k : goal.bounds-levels-k
bounds-levels-k c = c.if-k-levels.true

pub overflow_cast-result : goal.overflow_cast-result
overflow_cast-result c = omega (arith, c.shared_slice_known-1.given c.args.k)

pub returns : goal.returns
returns c = sym (get_or-eq_default c.args.levels.now 0 c.if-k-levels.false)
