-- `model_progress::operands::text` meets its contract: that what is left of the name from `at` on is printable says the same as of the whole name; the
-- next byte decides (`part_turn`), and past the model nothing is left (`part_past`).
use mathlib.Core.Path.{◌≡◌}
use Prim.Native.Nat.{◌-◌}
use lib.ListN.{take, drop}
use Rattle.theory.specs.Valid.{all}
use Rattle.theory.specs.Verdict.{printable}
use Rattle.model_progress.proofs.operands.text.Given as goal

abbrev pub invariant-loop-at : goal.invariant-loop-at
invariant-loop-at l = all printable (take (16 - (l.at - l.from)) (drop l.at l.model)) ≡ all printable (take 16 (drop l.from l.model))
