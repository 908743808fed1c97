use mathlib.Core.Path.{refl}
use Rattle.import_going.proofs.Steps.{pass_on, pass_found, pass_end}
use Rattle.import_going.proofs.behind.behind.Goals as goal

pub loop-i-init : goal.loop-i-init
loop-i-init c = record { within = c.requires; rest = λ K. refl }

pub returns-then-text-i : goal.returns-then-text-i
returns-then-text-i c = pass_found _ _ _ _ c.loop-i.invariant c.loop-i-test.true c.if-text-i.true

pub loop-i-preserved : goal.loop-i-preserved
loop-i-preserved c = pass_on _ _ _ _ c.loop-i.invariant c.loop-i-test.true c.if-text-i.false

pub returns : goal.returns
returns c = pass_end _ _ _ _ c.loop-i.invariant c.loop-i-test.false
