-- "The site model": bytes to commands.
use Rattle.std.specs.Prelude.{Bool, true, false, List, [], ◌∷◌, ℕ, zero, suc, ◌+◌, ◌-◌, ◌*◌, eqb, ltb, leb, ℤ, pos, negsuc, length, get_or, take, drop}
use Rattle.whole.specs.Cases.{if}
use Rattle.theory.specs.Widths.{levels_most, name_bytes}
use Rattle.theory.specs.Form.{Form, new_form, site_byte, levels_in, action_bytes, forbidden_bytes, linear_bytes, behind_action}
use Rattle.theory.specs.Diagram.{Linear, padded}

-- what a diagram is given as: the command's byte, the action, the condition or level (0 where there is none)
pub record Slot : Type 0 where
  pub command : ℕ
  pub action : ℕ
  pub index : ℕ

-- the commands, with their operands as they are written
pub data Command : Type 0 where
  site : ℕ → ℕ → ℕ → ℕ → Command
  push_leaf : Linear → Command
  push_condition : ℕ → Command
  push_test : Linear → Command
  push_forbidden : Command
  give : Slot → Command
  name_action : ℕ → List ℕ → Command
  end_model : Command

-- what stands at an offset: a whole command, or why there is none
pub data Read : Type 0 where
  whole : Command → Read
  unknown : Read
  short : Read

-- "Commands are one byte .., operands of fixed width": a command's bytes, 0 where the byte is unknown
unfoldable pub width_in : Form → ℕ → ℕ
width_in F op =
    if (eqb op (site_byte F)) (4 + action_bytes F)
    (if (eqb op 0x10) (1 + linear_bytes F)
    (if (eqb op 0x11) 2
    (if (eqb op 0x12) (1 + linear_bytes F)
    (if (eqb op 0x13) (forbidden_bytes F)
    (if (eqb op 0x20) (behind_action F)
    (if (eqb op 0x21) (behind_action F + 1)
    (if (eqb op 0x22) (behind_action F + 1)
    (if (eqb op 0x23) 1
    (if (eqb op 0x30) (behind_action F + name_bytes)
    (if (eqb op 0xff) 1 0))))))))))

-- a byte of the model, 0 past its end
abbrev pub byte_at : List ℕ → ℕ → ℕ
byte_at B i = get_or B i 0

-- "low byte first"
unfoldable pub word_at : List ℕ → ℕ → ℕ
word_at B i = byte_at B i + byte_at B (i + 1) * 256 + byte_at B (i + 2) * 65536 + byte_at B (i + 3) * 16777216

-- "signed 32-bit numbers", two's complement
unfoldable pub signed : ℕ → ℤ
signed n = if (ltb n 2147483648) (pos n) (negsuc (4294967295 - n))

-- k signed numbers from an offset on
unfoldable pub signed_from : List ℕ → ℕ → ℕ → List ℤ
signed_from B i zero = []
signed_from B i (suc k) = signed (word_at B i) ∷ signed_from B (i + 4) k

-- k bytes as a number, "low byte first"
unfoldable pub bytes_at : List ℕ → ℕ → ℕ → ℕ
bytes_at B i zero = 0
bytes_at B i (suc k) = byte_at B i + bytes_at B (i + 1) k * 256

-- an action operand, and A
abbrev pub action_at : Form → List ℕ → ℕ → ℕ
action_at F B i = bytes_at B i (action_bytes F)

-- "signed 32-bit numbers: coefficients of levels .., then a constant"; levels that the form has no coefficients for have 0
unfoldable pub linear_in : Form → List ℕ → ℕ → Linear
linear_in F B i = record { coeffs = padded levels_most (signed_from B i (levels_in F)); const = signed (word_at B (i + levels_in F * 4)) }

-- a command that is known and whole
unfoldable pub command_in : Form → List ℕ → ℕ → Command
command_in F B at =
    let op = byte_at B at in
    let a = action_at F B (at + 1) in
    let k = byte_at B (at + behind_action F) in
    if (eqb op (site_byte F)) (site (byte_at B (at + 1)) (byte_at B (at + 2)) (action_at F B (at + 3)) (byte_at B (at + (3 + action_bytes F))))
    (if (eqb op 0x10) (push_leaf (linear_in F B (at + 1)))
    (if (eqb op 0x11) (push_condition (byte_at B (at + 1)))
    (if (eqb op 0x12) (push_test (linear_in F B (at + 1)))
    (if (eqb op 0x13) push_forbidden
    (if (eqb op 0x20) (give (record { command = 0x20; action = a; index = 0 }))
    (if (eqb op 0x21) (give (record { command = 0x21; action = a; index = k }))
    (if (eqb op 0x22) (give (record { command = 0x22; action = a; index = k }))
    (if (eqb op 0x23) (give (record { command = 0x23; action = 0; index = 0 }))
    (if (eqb op 0x30) (name_action a (take name_bytes (drop (at + behind_action F) B)))
    end_model)))))))))

-- "within a command 3, 2"
unfoldable pub read_in : Form → List ℕ → ℕ → Read
read_in F B at =
    if (leb (length B) at) short
    (if (eqb (width_in F (byte_at B at)) 0) unknown
    (if (ltb (length B) (at + width_in F (byte_at B at))) short
    (whole (command_in F B at))))

-- a reading and its offset
pub record Placed : Type 0 where
  pub at : ℕ
  pub read : Read

-- a whole command that is not the end
unfoldable pub goes_on : Read → Bool
goes_on (whole c) = elim c [
  | site m n a w ↦ true
  | push_leaf p ↦ true
  | push_condition k ↦ true
  | push_test p ↦ true
  | push_forbidden ↦ true
  | give g ↦ true
  | name_action a b ↦ true
  | end_model ↦ false
]
goes_on unknown = false
goes_on short = false

-- the readings from an offset on, up to the end command or the first that is not whole
unfoldable pub readings_from_in : Form → List ℕ → ℕ → ℕ → List Placed
readings_from_in F B zero at = []
readings_from_in F B (suc k) at = record { at = at; read = read_in F B at } ∷ elim (goes_on (read_in F B at)) [
  | true ↦ readings_from_in F B k (at + width_in F (byte_at B at))
  | false ↦ []
]

-- each command takes a byte at least
unfoldable pub readings_in : Form → List ℕ → List Placed
readings_in F B = readings_from_in F B (suc (length B)) 0

-- ---- the form that the planner reads

abbrev pub width : ℕ → ℕ
width = width_in new_form

abbrev pub linear_at : List ℕ → ℕ → Linear
linear_at = linear_in new_form

abbrev pub command_at : List ℕ → ℕ → Command
command_at = command_in new_form

abbrev pub read_at : List ℕ → ℕ → Read
read_at = read_in new_form

abbrev pub readings_from : List ℕ → ℕ → ℕ → List Placed
readings_from = readings_from_in new_form

abbrev pub readings : List ℕ → List Placed
readings = readings_in new_form
