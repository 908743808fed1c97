use mathlib.Core.Path.{refl}
use native.Mathlib.Omega.{arith}
use Rattle.import_linears.proofs.Laws.{one_out, one_in, all_in}
use Rattle.import_linears.proofs.all_fit.Goals as goal

pub loop-i-init : goal.loop-i-init
loop-i-init c = (omega arith, refl)

pub loop-i-preserved : goal.loop-i-preserved
loop-i-preserved c = (
  omega arith,
  one_in c.args.a c.well_formed.0.1.0.1 c.loop-i.i c.loop-i.invariant.1
      c.loop-i-test.true c.fits-arg-1.given c.fits.ensures c.if-not-fits.false,
)

pub returns-then-not-fits : goal.returns-then-not-fits
returns-then-not-fits c = one_out c.args.a c.well_formed.0.1.0.1 c.loop-i.i c.loop-i.invariant.1
    c.loop-i-test.true c.fits-arg-1.given c.fits.ensures c.if-not-fits.true

pub returns : goal.returns
returns c = all_in c.args.a c.well_formed.0.1.0.1 c.loop-i.i c.loop-i.invariant.1 c.loop-i-test.false
