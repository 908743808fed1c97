use native.Mathlib.Omega.{arith}
use Rattle.prune_certificate.proofs.Sums.{tests_most}
use Rattle.prune_certificate.proofs.Way.{adding_starts, adding_small, adding_goes, adding_ends, way_given}
use Rattle.prune_certificate.proofs.adding.added_at.Goals as goal

pub loop-i-init : goal.loop-i-init
loop-i-init c = adding_starts _ _ _ _ _ c.requires.0

pub bounds-turns-i : goal.bounds-turns-i
bounds-turns-i c = c.loop-i-test.true

pub with_test-total-requires : goal.with_test-total-requires
with_test-total-requires c = (
  adding_small _ _ _ _ _ _ _ _ _ c.loop-i.invariant c.loop-i-test.true
      (omega (arith, c.ranges.root)),
  c.loop-i.invariant.way.node,
  c.requires.1,
  c.requires.2,
  way_given _ _ _ _ _ _ _
      c.loop-i.invariant.way c.loop-i-test.true,
)

pub tests-j-requires : goal.tests-j-requires
tests-j-requires c = c.loop-i.invariant.way.node

pub overflow_add-j : goal.overflow_add-j
overflow_add-j c = let t = tests_most c.args.nodes.now c.loop-i.r c.tests-j.result c.tests-j.ensures in let m = c.loop-i.invariant.way.used in omega (arith, c.loop-i-test.true)

pub goes-r-requires : goal.goes-r-requires
goes-r-requires c = c.loop-i.invariant.way.node

pub loop-i-preserved : goal.loop-i-preserved
loop-i-preserved c = adding_goes _ _ _ _ _ _ _ _ _ c.loop-i.invariant c.loop-i-test.true c.with_test-total.result c.goes-r.result
    c.tests-j.result c.requires.1 c.requires.2 c.with_test-total.ensures c.goes-r.ensures c.tests-j.ensures

pub returns : goal.returns
returns c = adding_ends _ _ _ _ _ _ _ _ _ c.loop-i.invariant c.loop-i-test.false
