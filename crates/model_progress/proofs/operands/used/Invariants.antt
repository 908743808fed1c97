-- `model_progress::operands::used` meets its contract: the coefficients from `last` on are zero, and the answer is one more than the last that is
-- not (`used_from`).
use mathlib.Core.Path.{◌≡◌}
use mathlib.Core.Bool.{true}
use Rattle.model_progress.proofs.Numbers.{zero_from}
use Rattle.model_progress.proofs.operands.used.Given as goal

abbrev pub invariant-loop-last : goal.invariant-loop-last
invariant-loop-last l = zero_from l.model l.from l.initial.last l.last ≡ true
