-- `prune_certificate::cancels` meets its contract: the coefficients from w on are all zero where all are (`Cancelling`); the first that is not
-- zero ends the loop, and a path's sum has no more than eight (`path_length`).
use Rattle.prune_paths.specs.Prune.{diagram_at, along, added}
use Rattle.prune_certificate.proofs.Answers.{Cancelling}
use Rattle.prune_certificate.proofs.cancels.Given as goal

abbrev pub invariant-loop-w : goal.invariant-loop-w
invariant-loop-w l = Cancelling (added (along l.turns (diagram_at l.nodes l.root)) l.ks) l.w
