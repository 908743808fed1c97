use mathlib.Core.Path.{refl}
use Rattle.whole.proofs.Filled.{none_filled}
use Rattle.table.proofs.Words.{back}
use Rattle.table.proofs.Store.{get_as}
use Rattle.table.proofs.get.Goals as goal

pub loop-k-init : goal.loop-k-init
loop-k-init c = none_filled refl

pub returns : goal.returns
returns c = get_as c.args.nodes.now c.args.i c.requires (back _ c.result-1.given) (back _ c.result-2-1.given) (back _ c.result-3-1.given) c.loop-k.invariant c.loop-k-test.false
