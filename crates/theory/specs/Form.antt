-- How a model is written: the form of K5, which the planner reads, and the one before it, which old models are in. What differs is named here and nowhere else.
use Rattle.std.specs.Prelude.{ℕ, ◌+◌, ◌*◌}
use Rattle.theory.specs.Widths.{levels_most, actions_most, bytes_most}

pub data Form : Type 0 where
  old_form : Form
  new_form : Form

-- "Site becomes 02"; before, "01 site"
abbrev pub site_byte : Form → ℕ
site_byte old_form = 0x01
site_byte new_form = 0x02

-- "A linear has eight coefficients"; before, four
abbrev pub levels_in : Form → ℕ
levels_in old_form = 4
levels_in new_form = levels_most

-- "A as two bytes (1 to 400)"; before, 1 to 8
abbrev pub actions_in : Form → ℕ
actions_in old_form = 8
actions_in new_form = actions_most

-- "Action operands are two bytes everywhere"; before, one
abbrev pub action_bytes : Form → ℕ
action_bytes old_form = 1
action_bytes new_form = 2

-- "A model may have 262,144 bytes"; "Old models keep their limit of 65,535 bytes"
abbrev pub bytes_in : Form → ℕ
bytes_in old_form = 65535
bytes_in new_form = bytes_most

-- "Command 13 pushes a leaf "forbidden"": one byte; "A model with 13 does not fit the old form"
abbrev pub forbidden_bytes : Form → ℕ
forbidden_bytes old_form = 0
forbidden_bytes new_form = 1

-- the bytes of a linear: "signed 32-bit numbers: coefficients .., then a constant"
abbrev pub linear_bytes : Form → ℕ
linear_bytes F = (levels_in F + 1) * 4

-- what stands behind a command's action: an index, or a name
abbrev pub behind_action : Form → ℕ
behind_action F = 1 + action_bytes F
