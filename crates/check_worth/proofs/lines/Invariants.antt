-- `check_worth::lines` meets its contract: `find` answers from `at` on and within the text, so the rest of the text falls.
use Rattle.std.proofs.Common.{◌-◌, length}
use Rattle.check_worth.proofs.lines.Given as goal

abbrev pub decreases-loop-at : goal.decreases-loop-at
decreases-loop-at g l = length l.text - l.at
