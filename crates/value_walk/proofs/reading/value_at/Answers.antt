-- `value_walk::reading::value_at` meets its contract.
use native.Mathlib.Omega.{arith}
use Rattle.value_walk.proofs.Outcome.{at_none, at_leaf}
use Rattle.value_walk.proofs.reading.value_at.Goals as goal

pub returns-then-r-eq0 : goal.returns-then-r-eq0
returns-then-r-eq0 c = at_none _ _ _ c.if-r-eq0.true c.refused.ensures

pub magnitude-requires : goal.magnitude-requires
magnitude-requires c = (c.requires.inside c.if-r-eq0.false, omega arith)

pub overflow_cast-result : goal.overflow_cast-result
overflow_cast-result c = omega (arith, c.requires.action c.if-r-eq0.false, c.magnitude.ensures)

pub numerator-requires : goal.numerator-requires
numerator-requires c = (c.requires.inside c.if-r-eq0.false, c.requires.small c.if-r-eq0.false)

pub returns : goal.returns
returns c = at_leaf _ _ _ c.if-r-eq0.false c.magnitude.ensures c.numerator.ensures
