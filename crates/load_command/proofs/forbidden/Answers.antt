-- `load_command::forbidden` meets its contract.
use Rattle.load_command.proofs.Steps.{small_at}
use Rattle.load_command.proofs.forbidden.Goals as goal

pub make_none-requires : goal.make_none-requires
make_none-requires c = c.requires

pub put-requires : goal.put-requires
put-requires c = small_at c.make_none.ensures

pub returns : goal.returns
returns c = record { made = c.make_none.result; grew = c.make_none.ensures; put = c.put.ensures }
