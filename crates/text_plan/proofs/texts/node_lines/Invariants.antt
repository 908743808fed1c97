-- `text_plan::texts::node_lines` meets its contract: the lines of nodes 1 to r stand from `at` on, and the buffer keeps its length (`Lined`); room
-- for all lines is room for the next (`lined_room`), which is put into the part lent from `next` to the end.
use Prim.Native.Nat.{◌≤◌}
use Rattle.theory.specs.Listing.{node_line}
use Rattle.text_plan.proofs.Joined.{Lined}
use Rattle.text_plan.proofs.texts.node_lines.Given as goal

abbrev pub invariant-loop-r : goal.invariant-loop-r
invariant-loop-r l = (l.r ≤ l.last) × Lined (node_line l.nodes) l.initial.buffer l.at l.r l.next l.buffer
