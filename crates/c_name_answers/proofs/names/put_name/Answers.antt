-- `c_name_answers::names::put_name` meets its contract.
use Rattle.c_name_answers.proofs.Named.{named_put}
use Rattle.c_name_answers.proofs.names.put_name.Goals as goal

pub returns : goal.returns
returns c = named_put c.args.place c.args.name.now c.put_pair-n.ensures.0 c.put_padded.ensures
