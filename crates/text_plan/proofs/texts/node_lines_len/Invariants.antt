-- `text_plan::texts::node_lines_len` meets its contract: n is what was counted before with the lines of nodes 1 to r, and over the room by a few
-- lines at most, so the sum fits; once it is over the room so is the whole (`counted_over`).
use Prim.Native.Nat.{◌+◌, ◌≤◌}
use mathlib.Core.Path.{◌≡◌}
use lib.ListN.{length}
use Rattle.theory.specs.Listing.{node_line}
use Rattle.text_plan_lines.specs.Lines.{node_line_most}
use Rattle.text_plan.specs.Plan.{other_lines_most}
use Rattle.text_plan.proofs.Joined.{upon}
use Rattle.text_plan.proofs.texts.node_lines_len.Given as goal

abbrev pub invariant-loop-r : goal.invariant-loop-r
invariant-loop-r l = (l.r ≤ l.last) × (l.n ≡ l.before + length (upon (node_line l.nodes) l.r)) × (l.n ≤ l.room + (other_lines_most + node_line_most))
