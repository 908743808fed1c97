-- `check_reader::walk` meets its contract: an offset that does not go on ends the loop, so what is left of the model falls.
use Rattle.std.proofs.Common.{◌-◌, length}
use Rattle.check_reader.proofs.walk.Given as goal

abbrev pub decreases-loop-at : goal.decreases-loop-at
decreases-loop-at g l = length l.model - l.at
