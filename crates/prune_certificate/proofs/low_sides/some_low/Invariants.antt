-- `prune_certificate::low_sides::some_low` meets its contract: a low side is used from r on where one is on the whole path (`Looking`); a test that
-- is met has its multiplier (`looking_given`), and the first low side above 0 ends the loop.
use Rattle.prune_certificate.proofs.Way.{Looking}
use Rattle.prune_certificate.proofs.low_sides.some_low.Given as goal

abbrev pub invariant-loop-turn : goal.invariant-loop-turn
invariant-loop-turn l = Looking l.nodes l.root l.turns l.ks l.r l.turn-index l.j
