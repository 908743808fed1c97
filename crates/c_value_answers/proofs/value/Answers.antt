-- `c_value_answers::value` meets its contract.
use Rattle.value_walk.specs.Out.{out as value_out}
use Rattle.c_value_answers.proofs.Read.{value_short, value_whole}
use Rattle.c_value_answers.proofs.value.Goals as goal

pub returns-then-out-lt24 : goal.returns-then-out-lt24
returns-then-out-lt24 c = value_short (value_out c.args.v) c.args.out.now c.if-out-lt24.true c.short.ensures

pub returns : goal.returns
returns c = value_whole (value_out c.args.v) c.args.out.now c.if-out-lt24.false c.put_value.ensures
