-- `plain_step::weighing::weight` meets its contract: the product of the factors so far, each at most 100.
use mathlib.Core.Path.{◌≡◌}
use Rattle.plain_step.proofs.Weigh.{product}
use Rattle.plain_step.proofs.weighing.weight.Given as goal

abbrev pub invariant-loop-k : goal.invariant-loop-k
invariant-loop-k l = l.weight ≡ product l.n l.total l.c l.r l.k
