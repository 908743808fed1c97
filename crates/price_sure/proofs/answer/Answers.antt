-- `price_sure::answer` meets its contract.
use Rattle.price_sure.proofs.Turns.{answer_is, answer_none, answer_over}
use borrow.Author.Rules.{rules}
use Rattle.price_sure.proofs.answer.Goals as goal

pub returns-in-Is : goal.returns-in-Is
returns-in-Is c = answer_is _ c.args.best c.args.other _ _ c.in-Is.is (search rules) c.exceeds.ensures c.answered.ensures

pub returns-in-None : goal.returns-in-None
returns-in-None c = answer_none _ c.args.best c.args.other c.in-None.is c.answered-in-None.ensures

pub returns-in-Over : goal.returns-in-Over
returns-in-Over c = answer_over _ c.args.best c.args.other c.in-Over.is c.refused.ensures
