-- `finish_number::number` meets its contract: the inner calls are at branches, whose indexes are smaller; each may assume its contract, the second one on the state that the first leaves.
use Rattle.finish_number.proofs.+number.Given as goal

abbrev pub decreases-number : goal.decreases-number
decreases-number l = l.i
