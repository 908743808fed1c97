-- What the code works with: an operand layout, the length of a command in another form, how a reading goes on.
use Rattle.std.specs.Prelude.{Bool, true, false, ℕ, ◌+◌}
use Rattle.theory.specs.Form.{Form}
use Rattle.model_command.specs.CursorReadings.{CodeRead}
use Rattle.std.specs.Prelude.{Ok, Err}
use Rattle.model_command.specs.declared.Command.TheVariants.{Site, Leaf, Condition, Test, Forbidden, Give, Name, End}
use Rattle.convert_forms.specs.declared.layouts.Layout.{Layout as CodeLayout}
use Rattle.convert_forms.specs.Forms.{Layout, layout_in, byte_in}

-- the layout that the code gives
abbrev pub layout_as : CodeLayout → Layout
layout_as x = record { before = x.before; differing = x.differing; behind = x.behind }

-- how many bytes the command of a byte has in another form
unfoldable pub converted_length : Form → Form → ℕ → ℕ
converted_length F G op = 1 + ((layout_in F op).before + ((layout_in G (byte_in F G op)).differing + (layout_in F op).behind))

-- a whole command that is not the end
unfoldable pub reads_on : CodeRead → Bool
reads_on (Ok (Site m n a w)) = true
reads_on (Ok Leaf) = true
reads_on (Ok (Condition k)) = true
reads_on (Ok Test) = true
reads_on (Ok Forbidden) = true
reads_on (Ok (Give c a i)) = true
reads_on (Ok (Name a)) = true
reads_on (Ok End) = false
reads_on (Err e) = false
