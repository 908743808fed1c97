-- The reading of document 01 that each answer of the cursor stands for.
use Rattle.std.specs.Prelude.{Result, Ok, Err, List, ℕ, ◌+◌, ltb, leb, ℤ, pos, length, get_or, take, drop}
use Rattle.whole.specs.Cases.{if}
use Rattle.theory.specs.Widths.{levels_most, name_bytes}
use Rattle.theory.specs.Form.{Form, new_form, action_bytes, behind_action}
use Rattle.theory.specs.Form.{linear_bytes as linear-bytes-in}
use Rattle.theory.specs.Diagram.{Linear}
use Rattle.theory.specs.Command.{Command, site, push_leaf, push_condition, push_test, push_forbidden, give, name_action, end_model, Read, whole, unknown, short, byte_at, action_at, width_in, linear_in}
use Rattle.model_command.specs.declared.Command.{Command as CodeCommand}
use Rattle.model_command.specs.declared.Command.TheVariants.{Site, Leaf, Condition, Test, Forbidden, Give, Name, End}
use Rattle.model_command.specs.declared.CommandError.{CommandError}
use Rattle.model_command.specs.declared.CommandError.TheVariants.{Unknown, Short}

-- A linear's bytes are those behind the command's byte, a name's those behind its action, in the model itself.
unfoldable pub command_of_in : Form → List ℕ → ℕ → CodeCommand → Command
command_of_in F B at (Site m n a w) = site m n a w
command_of_in F B at Leaf = push_leaf (linear_in F B (at + 1))
command_of_in F B at (Condition k) = push_condition k
command_of_in F B at Test = push_test (linear_in F B (at + 1))
command_of_in F B at Forbidden = push_forbidden
command_of_in F B at (Give c a i) = give (record { command = c; action = a; index = i })
command_of_in F B at (Name a) = name_action a (take name_bytes (drop (at + behind_action F) B))
command_of_in F B at End = end_model

-- "m levels .., n conditions .., A actions .., weight total W"
abbrev pub site_in : Form → List ℕ → ℕ → Command
site_in F B at = site (byte_at B (at + 1)) (byte_at B (at + 2)) (action_at F B (at + 3)) (byte_at B (at + (3 + action_bytes F)))

-- what the cursor answers
abbrev pub CodeRead : Type 0
CodeRead = Result CodeCommand CommandError

unfoldable pub read_of_in : Form → List ℕ → ℕ → CodeRead → Read
read_of_in F B at (Ok c) = whole (command_of_in F B at c)
read_of_in F B at (Err Unknown) = unknown
read_of_in F B at (Err Short) = short

-- the offset behind the command at an offset, the length where it is not whole
unfoldable pub next_in : Form → List ℕ → ℕ → ℕ
next_in F B at =
    if (leb (length B) at) (length B)
    (if (ltb (length B) (at + width_in F (byte_at B at))) (length B)
    (at + width_in F (byte_at B at)))

-- ---- the form that the planner reads

-- a linear's numbers have 32 bits each
abbrev pub linear_bytes : ℕ
linear_bytes = linear-bytes-in new_form

-- a command with a linear has its byte too
abbrev pub with_linear : ℕ
with_linear = 1 + linear_bytes

-- the coefficients of the levels, and behind them the constant
abbrev pub linear_of : List ℤ → Linear
linear_of l = record { coeffs = take levels_most l; const = get_or l levels_most (pos 0) }

abbrev pub command_of : List ℕ → ℕ → CodeCommand → Command
command_of = command_of_in new_form

abbrev pub read_of : List ℕ → ℕ → CodeRead → Read
read_of = read_of_in new_form

abbrev pub next_at : List ℕ → ℕ → ℕ
next_at = next_in new_form
