-- `plain_worth::answer` meets its contract.
use Rattle.plain_worth.proofs.Answers.{answer_over, answer_none, answer_is}
use borrow.Author.Rules.{rules}
use Rattle.plain_worth.proofs.answer.Goals as goal

pub returns-in-Is : goal.returns-in-Is
returns-in-Is c = answer_is c.args.t _ _ c.in-Is.is (search rules) _ c.from_word.ensures c.answered.ensures

pub returns-in-None : goal.returns-in-None
returns-in-None c = answer_none c.args.t c.in-None.is c.answered-in-None.ensures

pub returns-in-Over : goal.returns-in-Over
returns-in-Over c = answer_over c.args.t c.in-Over.is c.refused.ensures
