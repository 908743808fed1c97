use Rattle.std.proofs.Common.{refl, rules}
use Rattle.value_walk.proofs.Accept.{one_set, one_zero, all_zero}
use Rattle.value_walk.proofs.states.levels_fit.Goals as goal

pub loop-i-init : goal.loop-i-init
loop-i-init c = refl

pub returns-then-q-i-ne0 : goal.returns-then-q-i-ne0
returns-then-q-i-ne0 c = one_set c.args.q.n c.well_formed.1.0.1.1.1.0.1.0.1 c.args.m c.loop-i.i c.loop-i.invariant c.loop-i-test.true (search rules) c.if-q-i-ne0.true

pub loop-i-preserved : goal.loop-i-preserved
loop-i-preserved c = one_zero c.args.q.n c.well_formed.1.0.1.1.1.0.1.0.1 c.args.m c.loop-i.i c.loop-i.invariant c.loop-i-test.true (search rules) c.if-q-i-ne0.false

pub returns : goal.returns
returns c = all_zero c.args.q.n c.well_formed.1.0.1.1.1.0.1.0.1 c.args.m c.loop-i.i c.loop-i.invariant c.loop-i-test.false
