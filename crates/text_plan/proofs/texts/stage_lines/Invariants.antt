-- `text_plan::texts::stage_lines` meets its contract: the lines of stages 1 to h stand from `at` on, and the buffer keeps its length (`Lined`); room
-- for all lines is room for the next (`lined_room`), which is put into the part lent from `next` to the end.
use Prim.Native.Nat.{◌≤◌}
use Rattle.theory.specs.Listing.{stage_line}
use Rattle.text_plan.proofs.Joined.{Lined}
use Rattle.text_plan.proofs.texts.stage_lines.Given as goal

abbrev pub invariant-loop-h : goal.invariant-loop-h
invariant-loop-h l = (l.h ≤ l.last) × Lined (stage_line l.stages) l.initial.buffer l.at l.h l.next l.buffer
