use native.Mathlib.Omega.{arith}
use Rattle.prune_certificate.proofs.Sums.{tests_most}
use Rattle.prune_certificate.proofs.Way.{counting_starts, counting_stops, counting_goes, counting_ends}
use Rattle.prune_certificate.proofs.paths.shape.Goals as goal

pub loop-turn-init : goal.loop-turn-init
loop-turn-init c = counting_starts c.args.nodes.now c.args.root c.args.turns.now c.requires

pub tests-count-requires : goal.tests-count-requires
tests-count-requires c = c.loop-turn.invariant.node

pub goes-below-requires : goal.goes-below-requires
goes-below-requires c = c.loop-turn.invariant.node

pub returns-then-below-eq0 : goal.returns-then-below-eq0
returns-then-below-eq0 c = counting_stops _ _ _ _ _ _ c.loop-turn.invariant (omega arith) c.goes-below.result c.goes-below.ensures c.if-below-eq0.true

pub overflow_add-count : goal.overflow_add-count
overflow_add-count c = let t = tests_most c.args.nodes.now c.loop-turn.r c.tests-count.result c.tests-count.ensures in let m = c.loop-turn.invariant.most in omega arith

pub loop-turn-preserved : goal.loop-turn-preserved
loop-turn-preserved c = counting_goes _ _ _ _ _ _ c.loop-turn.invariant (omega arith) c.goes-below.result
    c.tests-count.result c.goes-below.ensures c.tests-count.ensures c.if-below-eq0.false

pub returns : goal.returns
returns c = counting_ends _ _ _ _ _ _ c.loop-turn.invariant (omega arith)
