-- A plan that can be written, and lengths within a room.
use Rattle.std.specs.Prelude.{List, ◌≡◌, ℕ, ◌+◌, ◌*◌, ◌≤◌, leb, ℤ, length}
use Rattle.whole.specs.Cases.{if}
use Rattle.theory.specs.Widths.{node_words, steps_most}
use Rattle.theory.specs.Listing.{greatest_root}
use Rattle.text_plan_lines.specs.Lines.{line_most}

-- no more bytes have the lines without a node's number: the first, and a line for each stage
abbrev pub other_lines_most : ℕ
other_lines_most = (steps_most + 1) * line_most

-- a plan that can be written: root is the greatest one of stages 1 to H, and its node lies inside the table
pub record PlanReady (H : ℕ) (nodes : List ℤ) (stages : List ℕ) (root : ℕ) : Type 0 where
  pub greatest : root ≡ greatest_root H stages
  pub inside : root * node_words ≤ length nodes
  pub steps : H ≤ length stages
  pub few : H ≤ steps_most

-- a length, or room + 1 where it is more than the room
unfoldable pub upto : ℕ → ℕ → ℕ
upto room n = if (leb n room) n (room + 1)
