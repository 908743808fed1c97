use native.Mathlib.Omega.{arith}
use Rattle.import_sums.proofs.Laws.{begins, at_over, at_end, at_stop, goes_on, too_deep, comes_back}
use Rattle.import_sums.proofs.+walk.Goals as goal

pub loop-i-init : goal.loop-i-init
loop-i-init t c = begins _ _ _ _ c.requires c.idle-s.ensures

pub returns-then-s : goal.returns-then-s
returns-then-s t c = at_over c.loop-i.invariant c.if-s.true

pub returns-then-stops : goal.returns-then-stops
returns-then-stops t c = at_stop c.loop-i.invariant c.loop-i-test.true c.if-s.false c.stops.ensures c.if-stops.true

pub returns-then-depth-eq0 : goal.returns-then-depth-eq0
returns-then-depth-eq0 t c =
    too_deep c.loop-i.invariant c.loop-i-test.true c.if-s.false c.stops.ensures c.if-stops.false c.opens.ensures c.if-opens.true c.if-depth-eq0.true c.over.ensures

pub closing-r-requires : goal.closing-r-requires
closing-r-requires t c =
    (c.loop-i.invariant.sound, (c.walk.ensures.reaches.sound, (c.walk.ensures.reaches.within, c.walk.ensures.rests)))

pub loop-i-preserved-then-opens : goal.loop-i-preserved-then-opens
loop-i-preserved-then-opens t c =
    comes_back c.loop-i.invariant c.loop-i-test.true c.if-s.false c.stops.ensures c.if-stops.false c.opens.ensures
    c.if-opens.true _ (omega (arith, c.if-depth-eq0.false)) c.walk.ensures c.closing-r.ensures

pub step-s-requires : goal.step-s-requires
step-s-requires t c = c.loop-i.invariant.sound

pub loop-i-preserved : goal.loop-i-preserved
loop-i-preserved t c =
    goes_on c.loop-i.invariant c.loop-i-test.true c.if-s.false c.stops.ensures c.if-stops.false c.opens.ensures c.if-opens.false c.step-s.ensures

pub returns : goal.returns
returns t c = at_end c.loop-i.invariant c.loop-i-test.false
