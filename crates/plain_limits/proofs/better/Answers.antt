-- `plain_limits::better` meets its contract.
use Rattle.plain_limits.proofs.Judge.{best_is, best_none, best_over}
use borrow.Author.Rules.{rules}
use Rattle.plain_limits.proofs.better.Goals as goal

pub returns-in-Is : goal.returns-in-Is
returns-in-Is c = best_is c.args.best _ _ _ _ c.in-Is.is (search rules) c.larger.ensures

pub returns-in-None : goal.returns-in-None
returns-in-None c = best_none c.args.best _ _ c.in-None.is c.numbered.ensures

pub returns-in-Over : goal.returns-in-Over
returns-in-Over c = best_over c.args.best _ _ c.in-Over.is
