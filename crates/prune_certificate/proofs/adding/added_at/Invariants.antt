-- `prune_certificate::adding::added_at` meets its contract: the total with what the path from r on adds is the whole sum, and its high word is
-- bounded by how far r lies below the root (`Adding`), so `with_test` may take it; i grows to the turns.
use Rattle.prune_certificate.proofs.Way.{Adding}
use Rattle.prune_certificate.proofs.adding.added_at.Given as goal

abbrev pub invariant-loop-i : goal.invariant-loop-i
invariant-loop-i l = Adding l.nodes l.root l.turns l.ks l.w l.r l.total l.i l.j
