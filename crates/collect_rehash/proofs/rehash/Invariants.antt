-- `collect_rehash::rehash` meets its contract: the heads and the cache are cleared; then the chains hold the first i nodes, and node i becomes its bucket's head, with the old head as its link.
use Rattle.collect_rehash.proofs.Heads.{Upto}
use Rattle.collect_rehash.proofs.rehash.Given as goal

abbrev pub invariant-loop-i : goal.invariant-loop-i
invariant-loop-i l = Upto l.cap l.nodes l.initial.work l.work l.count l.i
