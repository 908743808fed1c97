-- `c_sure::answer` meets its contract.
use Rattle.price_sure.specs.Answers.{out as said-out}
use Rattle.c_sure.proofs.Given.{sure_short, sure_whole}
use Rattle.c_sure.proofs.answer.Goals as goal

pub returns-then-out-lt-ANSWER_BYTES : goal.returns-then-out-lt-ANSWER_BYTES
returns-then-out-lt-ANSWER_BYTES c = sure_short (said-out c.args.v) c.args.out.now c.if-out-lt-ANSWER_BYTES.true c.short.ensures

pub returns : goal.returns
returns c = sure_whole (said-out c.args.v) c.args.out.now c.if-out-lt-ANSWER_BYTES.false c.put_pair.ensures.0
