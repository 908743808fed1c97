-- `c_total::give` meets its contract.
use Rattle.value_total.specs.Out.{total_out}
use Rattle.c_total.proofs.Answered.{total_short, total_whole}
use Rattle.c_total.proofs.give.Goals as goal

pub returns-then-out-lt-ANSWER_BYTES : goal.returns-then-out-lt-ANSWER_BYTES
returns-then-out-lt-ANSWER_BYTES c = total_short (total_out c.args.t) c.args.out.now c.if-out-lt-ANSWER_BYTES.true c.short.ensures

pub returns : goal.returns
returns c = total_whole (total_out c.args.t) c.args.out.now c.if-out-lt-ANSWER_BYTES.false c.put_total.ensures
