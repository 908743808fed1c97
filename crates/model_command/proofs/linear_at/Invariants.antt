-- `model_command::linear_at` meets its contract: the first i places hold the numbers read from the model (`Filled`); all of them are the
-- linear at the offset, and a number of four bytes is small (`linear_read`).
use Rattle.whole.specs.Linears.{numbers}
use Rattle.whole.proofs.Filled.{Filled}
use Rattle.model_command.proofs.Linears.{number_at}
use Rattle.model_command.proofs.linear_at.Given as goal

abbrev pub invariant-loop-i : goal.invariant-loop-i
invariant-loop-i l = Filled numbers (number_at l.model l.at) l.i l.out
