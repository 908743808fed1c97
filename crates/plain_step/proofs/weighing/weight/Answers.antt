use mathlib.Core.Path.{refl}
use native.Mathlib.Omega.{arith}
use Rattle.plain_step.proofs.Weigh.{product, product_on, product_fits, weighs}
use Rattle.plain_step.proofs.weighing.weight.Goals as goal

pub loop-k-init : goal.loop-k-init
unfolding product
loop-k-init c = refl

pub overflow_mul-weight : goal.overflow_mul-weight
overflow_mul-weight c = let p = product_fits c.args.model.now c.requires.0 c.args.c c.requires.1 c.args.r _ _ c.conditions-n.ensures c.weights-total.ensures c.loop-k.k (omega arith) c.loop-k.invariant c.factor-weight.ensures in
    omega (arith, p)

pub loop-k-preserved : goal.loop-k-preserved
loop-k-preserved c = product_on c.args.model.now c.requires.0 c.args.c c.requires.1 c.args.r _ _ c.conditions-n.ensures c.weights-total.ensures c.loop-k.k (omega arith) c.loop-k.invariant c.factor-weight.ensures

pub returns : goal.returns
returns c = weighs c.args.model.now c.requires.0 c.args.c c.requires.1 c.args.r _ _ c.conditions-n.ensures c.weights-total.ensures (omega arith) c.loop-k.invariant
