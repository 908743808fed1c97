-- The commands that are written, by the operands that the code has.
use Rattle.std.specs.Prelude.{List, ℕ, ◌+◌, ◌≤◌, ℤ, length}
use Rattle.theory.specs.Command.{Command, push_leaf, push_test, give}
use Rattle.model_command.specs.CursorReadings.{linear_of}
use Rattle.import_model.specs.Encode.{command_bytes}

-- 10 with nine numbers: "coefficients of levels .., then a constant"
abbrev pub leaf_of : List ℤ → Command
leaf_of a = push_leaf (linear_of a)

-- 12 with nine numbers
abbrev pub test_of : List ℤ → Command
test_of a = push_test (linear_of a)

-- 20, 21, 22 or 23 with an action and an index, of which 20 has no index and 23 neither
abbrev pub given_of : ℕ → ℕ → ℕ → Command
given_of command action index = give (record { command = command; action = action; index = index })

-- a command's bytes fit from a place on
abbrev pub CommandRoom : List ℕ → ℕ → Command → Type 0
CommandRoom out at c = at + length (command_bytes c) ≤ length out
