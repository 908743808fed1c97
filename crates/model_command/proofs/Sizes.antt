-- How many bytes a command has that is known by its case.
use mathlib.Core.Path.{◌≡◌, sym, ap, ◌∙◌}
use mathlib.Core.List.{List}
use Prim.Native.Nat.{ℕ}
use Rattle.theory.specs.Form.{Form}
use Rattle.theory.specs.Command.{whole, byte_at, width_in, read_in}
use Rattle.model_command.specs.declared.Command.{Command as CodeCommand}
use Rattle.model_command.specs.CursorReadings.{command_of_in}
use Rattle.model_command.proofs.Forward.{length_of, length_whole}

pub by_case : (F : Form) {c d : CodeCommand} (n : ℕ) → c ≡ d → ((B : List ℕ) (at : ℕ) → n ≡ length_of F (command_of_in F B at d)) → (B : List ℕ) (at : ℕ) → whole (command_of_in F B at c) ≡ read_in F B at → n ≡ width_in F (byte_at B at)
by_case F {c} {d} n e f B at w = f B at ∙ ap (λ (x : CodeCommand). length_of F (command_of_in F B at x)) (sym e) ∙ sym (length_whole F B at (command_of_in F B at c) w)
