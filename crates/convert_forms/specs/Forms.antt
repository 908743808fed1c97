-- "A converter writes the 02 model, command by command in the same order, .. and another writes the 01 model": the bytes of a model in another form.
use Rattle.std.specs.Prelude.{List, [], ◌∷◌, ◌++◌, ℕ, zero, suc, ◌+◌, ◌*◌, eqb}
use Rattle.whole.specs.Cases.{if}
use Rattle.theory.specs.Widths.{name_bytes}
use Rattle.theory.specs.Form.{Form, old_form, new_form, site_byte, levels_in, action_bytes}
use Rattle.theory.specs.Command.{Placed, byte_at, readings_in}

-- ---- one command

-- a command's operands: bytes that are the same in both forms, those that differ, and again some that are the same
pub record Layout : Type 0 where
  pub before : ℕ
  pub differing : ℕ
  pub behind : ℕ

abbrev pub layout : ℕ → ℕ → ℕ → Layout
layout b d e = record { before = b; differing = d; behind = e }

-- "A as two bytes", between m, n and W; "A linear has eight coefficients and a constant"; "Action operands are two bytes everywhere"; all else is the same
unfoldable pub layout_in : Form → ℕ → Layout
layout_in F op =
    if (eqb op (site_byte F)) (layout 2 (action_bytes F) 1)
    (if (eqb op 0x10) (layout 0 (levels_in F * 4) 4)
    (if (eqb op 0x11) (layout 0 0 1)
    (if (eqb op 0x12) (layout 0 (levels_in F * 4) 4)
    (if (eqb op 0x20) (layout 0 (action_bytes F) 0)
    (if (eqb op 0x21) (layout 0 (action_bytes F) 1)
    (if (eqb op 0x22) (layout 0 (action_bytes F) 1)
    (if (eqb op 0x30) (layout 0 (action_bytes F) name_bytes) (layout 0 0 0))))))))

-- "Site becomes 02": a command's byte in another form
unfoldable pub byte_in : Form → Form → ℕ → ℕ
byte_in F G op = if (eqb op (site_byte F)) (site_byte G) op

-- k bytes from an offset on
unfoldable pub copied : List ℕ → ℕ → ℕ → List ℕ
copied B i zero = []
copied B i (suc k) = byte_at B i ∷ copied B (i + 1) k

-- k bytes: zeros beyond those that there are; the coefficients beyond the fourth and the high byte of an action, put in or left out
unfoldable pub fitted : ℕ → List ℕ → List ℕ
fitted zero l = []
fitted (suc k) [] = 0 ∷ fitted k []
fitted (suc k) (b ∷ l) = b ∷ fitted k l

-- the command of form F at an offset, in form G
unfoldable pub converted : Form → Form → List ℕ → ℕ → List ℕ
converted F G B at =
    let op = byte_at B at in
    let x = layout_in F op in
    byte_in F G op ∷ (copied B (at + 1) x.before ++ (fitted (layout_in G (byte_in F G op)).differing (copied B (at + (1 + x.before)) x.differing)
    ++ copied B (at + (1 + x.before + x.differing)) x.behind))

-- ---- a model

-- "command by command in the same order"
unfoldable pub converted_all : Form → Form → List ℕ → List Placed → List ℕ
converted_all F G B [] = []
converted_all F G B (x ∷ l) = converted F G B x.at ++ converted_all F G B l

-- a model of form F in form G
unfoldable pub model_as : Form → Form → List ℕ → List ℕ
model_as F G B = converted_all F G B (readings_in F B)

-- "writes the 02 model"
abbrev pub forward : List ℕ → List ℕ
forward = model_as old_form new_form

-- "and another writes the 01 model"
abbrev pub back : List ℕ → List ℕ
back = model_as new_form old_form
