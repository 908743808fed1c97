-- `prune_certificate::paths::shape` meets its contract: the shape is the count so far with the tests from r on, where the turns left fit
-- (`Counting`); a turn that leads nowhere ends the loop with 0 (`counting_stops`).
use Rattle.prune_certificate.proofs.Way.{Counting}
use Rattle.prune_certificate.proofs.paths.shape.Given as goal

abbrev pub invariant-loop-turn : goal.invariant-loop-turn
invariant-loop-turn l = Counting l.nodes l.root l.turns l.r l.count l.turn-index
