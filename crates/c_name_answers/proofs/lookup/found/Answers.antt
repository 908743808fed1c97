-- `c_name_answers::lookup::found` meets its contract.
use Rattle.model_find.specs.Tally.{found_as}
use Rattle.c_name_answers.proofs.Looked.{find_short, find_whole}
use Rattle.c_name_answers.proofs.lookup.found.Goals as goal

pub returns-then-out-lt8 : goal.returns-then-out-lt8
returns-then-out-lt8 c = find_short (found_as c.args.v) c.args.out.now c.if-out-lt8.true c.short.ensures

pub returns : goal.returns
returns c = find_whole (found_as c.args.v) c.args.out.now c.if-out-lt8.false c.put_pair.ensures.0
