-- `model_command::action_in` meets its contract.
use Rattle.model_command.proofs.Operands.{one_byte, two_bytes}
use Rattle.model_command.proofs.action_in.Goals as goal

pub returns-in-Old : goal.returns-in-Old
returns-in-Old c = one_byte _ _ _ _ _ c.in-Old.is c.from.ensures c.byte_at-low.ensures

pub returns-in-New : goal.returns-in-New
returns-in-New c = two_bytes _ _ _ _ _ _ c.in-New.is c.from_le_bytes.ensures c.byte_at-low.ensures c.byte_at.ensures
