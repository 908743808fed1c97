-- `whole_wide::fit` meets its contract.
use native.Mathlib.Omega.{arith}
use Rattle.whole_wide.proofs.Judged.{fit_high, turned_fits, fit_below, fit_above}
use Rattle.whole_wide.proofs.fit.Goals as goal

pub returns-then-x-ge-SIGN : goal.returns-then-x-ge-SIGN
returns-then-x-ge-SIGN c = fit_high c.args.x (omega arith)

pub overflow_sub-result-then-x : goal.overflow_sub-result-then-x
overflow_sub-result-then-x c = turned_fits c.args.x (omega arith) (omega arith) c.if-x.true

pub returns-then-x : goal.returns-then-x
returns-then-x c = fit_below c.args.x (omega arith) (omega arith) c.if-x.true

pub returns-else-x : goal.returns-else-x
returns-else-x c = fit_above c.args.x (omega arith) (omega arith) c.if-x.false
