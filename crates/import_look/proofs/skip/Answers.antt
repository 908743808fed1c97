use mathlib.Core.Path.{refl}
use Rattle.import_look.proofs.Places.{skip_on, skip_stops, skip_ends}
use Rattle.import_look.proofs.skip.Goals as goal

pub loop-i-init : goal.loop-i-init
loop-i-init c = record { within = c.requires; rest = refl }

pub loop-i-preserved : goal.loop-i-preserved
loop-i-preserved c = skip_on _ _ _ c.loop-i.invariant c.loop-i-test.true c.is_blank.ensures c.if-not-is_blank.false

pub returns-then-not-is_blank : goal.returns-then-not-is_blank
returns-then-not-is_blank c = skip_stops _ _ _ c.loop-i.invariant c.loop-i-test.true c.is_blank.ensures c.if-not-is_blank.true

pub returns : goal.returns
returns c = skip_ends _ _ _ c.loop-i.invariant c.loop-i-test.false
