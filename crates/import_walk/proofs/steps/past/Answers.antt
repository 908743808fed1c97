use mathlib.Core.Path.{refl}
use native.Mathlib.Omega.{arith}
use Rattle.import_walk.proofs.Loops.{past_on, past_found, past_end}
use Rattle.import_walk.proofs.steps.past.Goals as goal

pub loop-i-init : goal.loop-i-init
loop-i-init c = record { within = c.requires; on = omega arith; rest = refl }

pub returns-then-text-i : goal.returns-then-text-i
returns-then-text-i c = past_found _ _ _ _ c.loop-i.invariant c.loop-i-test.true c.if-text-i.true

pub loop-i-preserved : goal.loop-i-preserved
loop-i-preserved c = past_on _ _ _ _ c.loop-i.invariant c.loop-i-test.true c.if-text-i.false

pub returns : goal.returns
returns c = past_end _ _ _ _ c.loop-i.invariant c.loop-i-test.false
