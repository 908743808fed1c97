use mathlib.Core.Path.{refl, sym, ◌∙◌}
use mathlib.Core.Bool.{true, false}
use Rattle.import_scan.proofs.Walk.{at_start, turned, stopped, ended}
use Rattle.import_scan.proofs.scan.Goals as goal

pub loop-i-init : goal.loop-i-init
loop-i-init c = at_start _ _ refl

pub returns-then-over : goal.returns-then-over
returns-then-over c = stopped _ c.loop-i.s c.loop-i.i c.loop-i.invariant c.loop-i-test.true c.next-s.result c.next-s.ensures (sym c.over.ensures ∙ c.if-over.true)

pub loop-i-preserved : goal.loop-i-preserved
loop-i-preserved c = turned _ c.loop-i.s c.loop-i.i c.loop-i.invariant c.loop-i-test.true c.next-s.result c.next-s.ensures (sym c.over.ensures ∙ c.if-over.false)

pub returns-then-finished : goal.returns-then-finished
returns-then-finished c = sym (ended _ c.loop-i.s c.loop-i.i c.loop-i.invariant c.loop-i-test.false true (sym c.finished.ensures ∙ c.if-finished.true))

pub returns-else-finished : goal.returns-else-finished
returns-else-finished c = sym (ended _ c.loop-i.s c.loop-i.i c.loop-i.invariant c.loop-i-test.false false (sym c.finished.ensures ∙ c.if-finished.false))
