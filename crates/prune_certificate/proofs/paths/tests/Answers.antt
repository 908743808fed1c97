-- `prune_certificate::paths::tests` meets its contract.
use native.Mathlib.Omega.{arith}
use Rattle.prune_certificate.proofs.Rows.{row_inside, tests_one, tests_none}
use Rattle.prune_certificate.proofs.paths.tests.Goals as goal

pub magnitude-requires : goal.magnitude-requires
magnitude-requires c = (row_inside c.requires, omega arith)

pub returns-then-magnitude-eq-TEST : goal.returns-then-magnitude-eq-TEST
returns-then-magnitude-eq-TEST c = tests_one c.args.nodes.now c.args.r c.magnitude.result c.magnitude.ensures c.if-magnitude-eq-TEST.true

pub returns-else-magnitude-eq-TEST : goal.returns-else-magnitude-eq-TEST
returns-else-magnitude-eq-TEST c = tests_none c.args.nodes.now c.args.r c.magnitude.result c.magnitude.ensures c.if-magnitude-eq-TEST.false
