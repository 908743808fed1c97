-- `value_read::value` meets its contract: an early refusal is the answer (`refused_early`); else the steps are 1 to 8 of eight stage words
-- (`left_of`), so the root can be read, and reading on from it is `value_of_lem` (`read_early`).
use mathlib.Core.Path.{refl}
use native.Mathlib.Omega.{arith}
use Rattle.value_read.proofs.Entry.{left_of, refused_early, read_early}
use Rattle.value_read.proofs.value.Goals as goal

pub returns-then-early-ne0 : goal.returns-then-early-ne0
returns-then-early-ne0 c = refused_early _ _ _ _ _ c.early-early.ensures c.if-early-ne0.true c.refused.ensures

pub overflow_sub-root : goal.overflow_sub-root
overflow_sub-root c = (left_of _ _ _ c.early-early.ensures c.if-early-ne0.false).some

pub bounds-stages-steps : goal.bounds-stages-steps
bounds-stages-steps c = let o = left_of _ _ _ c.early-early.ensures c.if-early-ne0.false in omega arith

pub returns : goal.returns
returns c = read_early _ _ _ _ _ c.early-early.ensures c.if-early-ne0.false c.site-site.ensures refl c.value_after.ensures
