use Prim.Native.Nat.{◌+◌, ◌-◌, ◌*◌}
use native.Mathlib.Omega.{arith}
use Rattle.theory.specs.Widths.{node_words}
use Rattle.table_rows.proofs.Rowed.{each_zero, so_none, so_more, so_all}
use Rattle.table_rows.proofs.zeros_from.Goals as goal

pub loop-i-init : goal.loop-i-init
loop-i-init c = so_none each_zero c.args.nodes.now ((c.args.r - 1) * node_words + c.args.first) c.args.count

pub loop-i-preserved : goal.loop-i-preserved
loop-i-preserved c = let l = c.loop-i in
    let r = c.args.r in
    so_more each_zero c.args.nodes.now ((r - 1) * node_words + c.args.first) c.args.count l.i l.good ((r - 1) * node_words + (c.args.first + l.i)) l.invariant c.loop-i-test.true
    (omega arith) (omega (arith, c.requires.0.above, c.requires.0.within, c.requires.1, c.loop-i-test.true)) c.is_zero-good.ensures

pub returns : goal.returns
returns c = so_all each_zero c.loop-i.invariant c.loop-i-test.false
