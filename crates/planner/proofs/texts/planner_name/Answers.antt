-- `planner::texts::planner_name` meets its contract.
use Rattle.c_name_answers.proofs.Named.{name_most, name_short, name_whole}
use Rattle.planner.proofs.texts.planner_name.Goals as goal

pub returns-then-out-lt24 : goal.returns-then-out-lt24
returns-then-out-lt24 c = name_short c.args.bytes.now c.args.action c.args.out.now c.name_refusal-v.ensures c.if-out-lt24.true c.short.ensures

pub put_name-requires : goal.put_name-requires
put_name-requires c = (name_most c.args.bytes.now c.args.action c.name.ensures.bytes, c.if-out-lt24.false)

pub returns : goal.returns
returns c = name_whole c.args.bytes.now c.args.action c.args.out.now c.name_refusal-v.ensures c.if-out-lt24.false c.name.ensures.bytes c.put_name.ensures
