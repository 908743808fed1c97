-- `model_progress::operands::zeros` meets its contract: that the numbers from i on are zero says the same as of all n;
-- a number is zero where its word is (`zero_turn`).
use mathlib.Core.Path.{◌≡◌}
use Rattle.theory.specs.Diagram.{zeros}
use Rattle.theory.specs.Command.{signed_from}
use Rattle.model_progress.proofs.Numbers.{zero_from}
use Rattle.model_progress.proofs.operands.zeros.Given as goal

abbrev pub invariant-loop-i : goal.invariant-loop-i
invariant-loop-i l = zero_from l.model l.from l.n l.i ≡ zeros (signed_from l.model l.from l.n)
