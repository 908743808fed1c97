use mathlib.Core.Path.{refl, sym, ◌∙◌}
use native.Mathlib.Omega.{arith}
use Rattle.import_walk.proofs.Loops.{scan_on, scan_here, scan_end}
use Rattle.import_walk.proofs.scan.scan.Goals as goal

pub loop-i-init : goal.loop-i-init
loop-i-init c = record { within = c.requires; on = omega arith; rest = refl }

pub returns-then-stops : goal.returns-then-stops
returns-then-stops c = scan_here _ _ _ _ _ c.loop-i.invariant c.loop-i-test.true (sym c.stops.ensures ∙ c.if-stops.true)

pub loop-i-preserved : goal.loop-i-preserved
loop-i-preserved c = scan_on _ _ _ _ _ _ c.loop-i.invariant c.loop-i-test.true (sym c.stops.ensures ∙ c.if-stops.false) c.turned-inside.ensures

pub returns : goal.returns
returns c = scan_end _ _ _ _ _ c.loop-i.invariant c.loop-i-test.false
