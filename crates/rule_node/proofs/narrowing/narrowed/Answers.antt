use mathlib.Core.Path.{refl, ◌∙◌}
use native.Mathlib.Omega.{arith}
use Rattle.table.proofs.Tests.{nat_back, abs_of}
use Rattle.rule_node.proofs.Parallels.{stays, goes_to, low_nat}
use Rattle.rule_node.proofs.narrowing.narrowed.Goals as goal

pub loop-t-init : goal.loop-t-init
loop-t-init c = (c.requires.3, refl)

pub get-x-requires : goal.get-x-requires
get-x-requires c = omega (arith, c.loop-t.invariant.0, c.requires.1)

pub returns-then-not-parallel : goal.returns-then-not-parallel
returns-then-not-parallel c = let L = c.loop-t in
    (L.invariant.0, stays c.requires.0 c.args.t c.requires.2 L.at L.invariant.0 c.get-x.ensures c.parallel.ensures c.if-not-parallel.true ∙ L.invariant.1)

pub index-at-requires : goal.index-at-requires
index-at-requires c = let L = c.loop-t in
    nat_back c.get-x.result.low c.struct_told-1.given.1.1.1.0.1
    (low_nat c.requires.0 c.args.t c.requires.2 L.at L.invariant.0 c.get-x.ensures c.parallel.ensures)

pub loop-t-smaller : goal.loop-t-smaller
loop-t-smaller c = let L = c.loop-t in
    (goes_to c.requires.0 c.args.t c.requires.2 L.at L.invariant.0 c.get-x.ensures c.parallel.ensures c.if-not-parallel.false
    (abs_of c.get-x.result.low c.struct_told-1.given.1.1.1.0.1 c.index-at.ensures)).0

pub loop-t-preserved : goal.loop-t-preserved
loop-t-preserved c = let L = c.loop-t in
    let g = goes_to c.requires.0 c.args.t c.requires.2 L.at L.invariant.0 c.get-x.ensures c.parallel.ensures c.if-not-parallel.false
    (abs_of c.get-x.result.low c.struct_told-1.given.1.1.1.0.1 c.index-at.ensures) in
    (omega (arith, g.0, L.invariant.0), g.1 ∙ L.invariant.1)
