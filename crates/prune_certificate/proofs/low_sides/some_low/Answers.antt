use native.Mathlib.Omega.{arith}
use Rattle.prune_certificate.proofs.Sums.{tests_most}
use Rattle.prune_certificate.proofs.Way.{looking_starts, looking_finds, looking_given, looking_goes, looking_ends}
use Rattle.prune_certificate.proofs.low_sides.some_low.Goals as goal

pub loop-turn-init : goal.loop-turn-init
loop-turn-init c = looking_starts _ _ _ _ c.requires

pub tests-n-requires : goal.tests-n-requires
tests-n-requires c = c.loop-turn.invariant.way.node

pub low_here-requires : goal.low_here-requires
low_here-requires c = looking_given _ _ _ _ _ _ _ c.loop-turn.invariant (omega arith) c.tests-n.result c.tests-n.ensures

pub returns-then-low_here : goal.returns-then-low_here
returns-then-low_here c = looking_finds _ _ _ _ _ _ _ c.loop-turn.invariant (omega arith)
    c.tests-n.result c.low_here.result c.tests-n.ensures c.low_here.ensures c.if-low_here.true

pub overflow_add-j : goal.overflow_add-j
overflow_add-j c = let t = tests_most c.args.nodes.now c.loop-turn.r c.tests-n.result c.tests-n.ensures in let m = c.loop-turn.invariant.way.used in omega arith

pub goes-r-requires : goal.goes-r-requires
goes-r-requires c = c.loop-turn.invariant.way.node

pub loop-turn-preserved : goal.loop-turn-preserved
loop-turn-preserved c = looking_goes _ _ _ _ _ _ _ c.loop-turn.invariant (omega arith) c.goes-r.result c.tests-n.result c.low_here.result
    c.goes-r.ensures c.tests-n.ensures c.low_here.ensures c.if-low_here.false

pub returns : goal.returns
returns c = looking_ends _ _ _ _ _ _ _ c.loop-turn.invariant (omega arith)
