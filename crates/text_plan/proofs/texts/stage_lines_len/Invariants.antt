-- `text_plan::texts::stage_lines_len` meets its contract: n is the length of the lines of stages 1 to h, at most
-- `line_most` for each, so the sum fits; h grows to the last.
use Prim.Native.Nat.{◌+◌, ◌*◌, ◌≤◌}
use mathlib.Core.Path.{◌≡◌}
use lib.ListN.{length}
use Rattle.theory.specs.Listing.{stage_line}
use Rattle.text_plan_lines.specs.Lines.{line_most}
use Rattle.text_plan.proofs.Joined.{upon}
use Rattle.text_plan.proofs.texts.stage_lines_len.Given as goal

abbrev pub invariant-loop-h : goal.invariant-loop-h
invariant-loop-h l = (l.h ≤ l.last) × (l.n ≡ 0 + length (upon (stage_line l.stages) l.h)) × (l.n ≤ line_most * l.h)
