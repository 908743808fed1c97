-- An item by its opening and its cases.
use Rattle.std.specs.Prelude.{List, [], ◌∷◌, ◌++◌, ℕ, ℤ}
use Rattle.theory.specs.Command.{Command}
use Rattle.import_grammar.specs.Grammar.{Before, start, case, Opening, spaces_bytes, or_bytes, result_bytes}
use Rattle.import_numbers.specs.Numbers.{or_numbers, result_numbers}
use Rattle.import_model.specs.Commands.{or_commands, result_command}

-- an item's opening, the bytes of its cases before f, and their commands before those of what follows
unfoldable pub opening_of : Before → Opening
opening_of (start O) = O
opening_of (case B o p r q) = opening_of B

unfoldable pub cases_bytes : Before → List ℕ → List ℕ
cases_bytes (start O) f = f
cases_bytes (case B o p r q) f = cases_bytes B (or_bytes o (spaces_bytes p (58 ∷ result_bytes r (spaces_bytes q (59 ∷ f)))))

unfoldable pub cases_commands : Before → List Command → List Command
cases_commands (start O) C = C
cases_commands (case B o p r q) C = cases_commands B (or_commands o (result_command r ∷ []) C)

-- the numbers of its cases
unfoldable pub cases_numbers : Before → List ℤ
cases_numbers (start O) = []
cases_numbers (case B o p r q) = cases_numbers B ++ (or_numbers o ++ result_numbers r)
