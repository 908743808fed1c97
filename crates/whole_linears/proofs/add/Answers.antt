use mathlib.Core.Path.{refl}
use Rattle.whole.proofs.Filled.{none_filled, one_filled}
use Rattle.whole.proofs.Loops.{add_fits, add_is, added}
use Rattle.whole_linears.proofs.add.Goals as goal

pub loop-i-init : goal.loop-i-init
loop-i-init c = none_filled refl

pub overflow_add-out : goal.overflow_add-out
overflow_add-out c = let i = c.loop-i.i in add_fits _ _ (c.requires.0.each i) (c.requires.1.each i)

pub loop-i-preserved : goal.loop-i-preserved
loop-i-preserved c = let i = c.loop-i.i in one_filled c.loop-i.invariant c.loop-i-test.true (add_is _ _ (c.requires.0.each i) (c.requires.1.each i))

pub returns : goal.returns
returns c = added _ _ c.requires c.loop-i.invariant c.loop-i-test.false
