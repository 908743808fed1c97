use Prim.Native.Nat.{◌+◌, ◌-◌, ◌*◌}
use native.Mathlib.Omega.{arith}
use Rattle.theory.specs.Widths.{node_words, levels_most}
use mathlib.Core.Path.{◌∙◌}
use Rattle.table_rows.proofs.Rowed.{each_small, small_one, so_none, so_more, so_all, numbers_small}
use Rattle.table_rows.proofs.small_linear.Goals as goal

pub loop-i-init : goal.loop-i-init
loop-i-init c = so_none each_small c.args.nodes.now ((c.args.r - 1) * node_words + 1) (levels_most + 1)

pub loop-i-preserved : goal.loop-i-preserved
loop-i-preserved c = let l = c.loop-i in
    let r = c.args.r in
    so_more each_small c.args.nodes.now ((r - 1) * node_words + 1) (levels_most + 1) l.i l.good ((r - 1) * node_words + (l.i + 1)) l.invariant c.loop-i-test.true
    (omega arith) (omega (arith, c.requires.above, c.requires.within, c.loop-i-test.true)) (c.is_small-good.ensures ∙ small_one _)

pub returns : goal.returns
returns c = so_all each_small c.loop-i.invariant c.loop-i-test.false ∙ numbers_small c.args.nodes.now c.args.r c.requires
