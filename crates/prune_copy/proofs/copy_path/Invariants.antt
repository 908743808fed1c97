-- `prune_copy::copy_path` meets its contract: row r is to be copied as row c, the copies behind c are good, and once what
-- stands in for row r is its diagram with the rest of the path cut off, so it is at the root (`Upto`); the copy steps this
-- down turn by turn to the last, where nothing is left to copy.
use Rattle.prune_paths.specs.Prune.{GoodRows}
use Rattle.prune_copy.proofs.Walk.{Upto}
use Rattle.prune_copy.proofs.copy_path.Given as goal

abbrev pub invariant-loop-k : goal.invariant-loop-k
invariant-loop-k l = (G : GoodRows l.initial.nodes l.last) → Upto l.initial.nodes l.root l.turns l.last G.conditions G.actions l.nodes l.r l.c l.k
