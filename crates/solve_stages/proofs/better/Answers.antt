-- `solve_stages::better` meets its contract: the total is due behind the best so far (`behind_due`); where it stops so does this, and else both stand
-- as roots, and the rule `Best` on them gives the better one (`better_done`).
use native.Mathlib.Omega.{arith}
use Rattle.solve_stages.proofs.StagesBetter.{behind_due, better_stopped, better_ready, better_done}
use Rattle.solve_stages.proofs.better.Goals as goal

pub overflow_add-behind : goal.overflow_add-behind
overflow_add-behind c = omega (arith, c.requires.room, c.well_formed.1.1.1.1.1.0.0)

pub total-t-requires : goal.total-t-requires
total-t-requires c = behind_due c.requires

pub returns-then-t-ne0 : goal.returns-then-t-ne0
returns-then-t-ne0 c = better_stopped c.requires c.total-t.ensures c.if-t-ne0.true

pub overflow_add-backup : goal.overflow_add-backup
overflow_add-backup c = omega (arith, c.requires.room, c.well_formed.1.1.1.1.1.0.0)

pub overflow_add-backup-2 : goal.overflow_add-backup-2
overflow_add-backup-2 c = omega (arith, c.requires.room, c.well_formed.1.1.1.1.1.0.0)

pub operate-requires : goal.operate-requires
operate-requires c = better_ready c.requires c.total-t.ensures c.if-t-ne0.false (omega (arith, c.requires.room, c.total-t.auto.roots))

pub returns : goal.returns
returns c = better_done c.requires c.total-t.ensures c.if-t-ne0.false c.operate.ensures
