-- `text_page::writing::write_lines` meets its contract: the lines of stages 1 to h stand from `place` on, and the buffer keeps its length (`Lined`);
-- room for the page is room for the next line (`lined_room`), which is put into the part lent from `next` to the end.
use Prim.Native.Nat.{◌≤◌}
use Rattle.value_walk.specs.State.{asked}
use Rattle.text_plan.proofs.Joined.{Lined}
use Rattle.text_page_lines.specs.Page.{line_at}
use Rattle.text_page.proofs.writing.write_lines.Given as goal

abbrev pub invariant-loop-h : goal.invariant-loop-h
invariant-loop-h l = (l.h ≤ l.horizon) × Lined (line_at l.model l.nodes l.stages (asked l.q)) l.initial.text l.place l.h l.next l.text
