-- `load_command::leaf` meets its contract.
use Rattle.load_command.proofs.Steps.{leaf_valid, leaf_grew, small_at}
use Rattle.load_command.proofs.leaf.Goals as goal

pub intern-requires : goal.intern-requires
intern-requires c = (c.requires.0, leaf_valid c.args.p _ c.words.ensures c.requires.1)

pub put-requires : goal.put-requires
put-requires c = small_at c.intern.ensures

pub returns : goal.returns
returns c = record { made = c.intern.result; grew = leaf_grew c.args.p c.words.ensures c.intern.ensures; put = c.put.ensures }
