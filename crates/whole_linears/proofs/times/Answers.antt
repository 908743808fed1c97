use mathlib.Core.Path.{refl}
use Rattle.whole.proofs.Filled.{none_filled, one_filled}
use Rattle.whole.proofs.Loops.{times_word, multiplied_word}
use Rattle.whole_linears.proofs.times.Goals as goal

pub loop-i-init : goal.loop-i-init
loop-i-init c = none_filled refl

pub loop-i-preserved : goal.loop-i-preserved
loop-i-preserved c = one_filled c.loop-i.invariant c.loop-i-test.true (times_word c.args.k _ c.ranges.k c.product-arg-1.given c.product.ensures)

pub returns : goal.returns
returns c = multiplied_word c.args.k _ c.ranges.k c.well_formed.1.0.1.0.1 c.loop-i.invariant c.loop-i-test.false
