-- `prune_certificate::paths::goes` meets its contract.
use native.Mathlib.Omega.{arith}
use Rattle.prune_certificate.proofs.Rows.{row_inside, goes_leaf, goes_high, goes_low, goes_none}
use Rattle.prune_certificate.proofs.paths.goes.Goals as goal

pub returns-then-is_leaf : goal.returns-then-is_leaf
returns-then-is_leaf c = goes_leaf _ c.args.r c.args.turn c.is_leaf.result c.is_leaf.ensures c.if-is_leaf.true

pub magnitude-requires : goal.magnitude-requires
magnitude-requires c = (row_inside c.requires, omega arith)

pub returns-then-turn-eq1 : goal.returns-then-turn-eq1
returns-then-turn-eq1 c = goes_high _ c.args.r c.args.turn c.is_leaf.result c.is_leaf.ensures c.if-is_leaf.false c.magnitude.result c.if-turn-eq1.true c.magnitude.ensures

pub magnitude-requires-then-turn-eq0 : goal.magnitude-requires-then-turn-eq0
magnitude-requires-then-turn-eq0 c = (row_inside c.requires, omega arith)

pub returns-then-turn-eq0 : goal.returns-then-turn-eq0
returns-then-turn-eq0 c = goes_low _ c.args.r c.args.turn c.is_leaf.result c.is_leaf.ensures c.if-is_leaf.false c.magnitude-then-turn-eq0.result c.if-turn-eq1.false c.if-turn-eq0.true c.magnitude-then-turn-eq0.ensures

pub returns : goal.returns
returns c = goes_none _ c.args.r c.args.turn c.is_leaf.result c.is_leaf.ensures c.if-is_leaf.false c.if-turn-eq1.false c.if-turn-eq0.false
