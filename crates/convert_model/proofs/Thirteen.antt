-- Whether a reading is a command 13.
use mathlib.Core.Path.{◌≡◌, refl, sym, ap, ◌∙◌}
use mathlib.Core.Bool.{true, false}
use mathlib.Core.List.{List}
use Prim.Native.Nat.{ℕ}
use Rattle.theory.specs.Form.{Form}
use Rattle.theory.specs.Command.{read_in}
use Rattle.model_command.specs.declared.Command.{Command as CodeCommand}
use Rattle.model_command.specs.declared.Command.TheVariants.{Forbidden}
use Rattle.model_command.specs.CursorReadings.{CodeRead}
use Rattle.model_command.specs.declared.CommandError.{CommandError}
use Rattle.std.specs.Prelude.{Ok, Err}
use Rattle.model_command.specs.CursorReadings.{command_of_in, read_of_in}
use Rattle.convert_forms.proofs.ReadingSteps.{command_cases, reading_cases}
use Rattle.convert_model.specs.Conversion.{is_forbidden}
use Rattle.convert_model.specs.Written.{reads_forbidden}

pub forbids_here : (r : CodeRead) (c : CodeCommand) → r ≡ Ok c → c ≡ Forbidden → true ≡ reads_forbidden r
unfolding reads_forbidden
forbids_here r c e d = sym (ap reads_forbidden e ∙ ap (λ (c : CodeCommand). reads_forbidden (Ok c)) d)

pub not_13 : (r : CodeRead) (c : CodeCommand) → r ≡ Ok c → (c ≡ Forbidden → ⊥) → false ≡ reads_forbidden r
unfolding reads_forbidden
not_13 r c e k =
    sym (ap reads_forbidden e ∙ command_cases (λ (c : CodeCommand). (c ≡ Forbidden → ⊥) → reads_forbidden (Ok c) ≡ false)
    (λ m n a w k. refl) (λ k. refl) (λ i k. refl) (λ k. refl) (λ k. absurd (k refl)) (λ g a j k. refl) (λ a k. refl) (λ k. refl) c k)

pub failed : (r : CodeRead) (e : CommandError) → r ≡ Err e → false ≡ reads_forbidden r
unfolding reads_forbidden
failed r e f = sym (ap reads_forbidden f)

pub forbids_as : (F : Form) (B : List ℕ) (at : ℕ) (r : CodeRead) → read_of_in F B at r ≡ read_in F B at → reads_forbidden r ≡ is_forbidden (read_in F B at)
unfolding reads_forbidden is_forbidden read_of_in command_of_in
forbids_as F B at r e =
    reading_cases (λ (r : CodeRead). reads_forbidden r ≡ is_forbidden (read_of_in F B at r))
    (command_cases (λ (c : CodeCommand). reads_forbidden (Ok c) ≡ is_forbidden (read_of_in F B at (Ok c)))
    (λ m n a w. refl) refl (λ i. refl) refl refl (λ g a j. refl) (λ a. refl) refl) refl refl r ∙ ap is_forbidden e
