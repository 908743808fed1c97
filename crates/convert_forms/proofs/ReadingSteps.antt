-- How a reading goes on, and whether it is a 13.
use mathlib.Core.Path.{◌≡◌, refl, sym, ap, ◌∙◌}
use mathlib.Core.Bool.{true, false}
use mathlib.Core.List.{List}
use Prim.Native.Nat.{ℕ}
use Rattle.theory.specs.Form.{Form}
use Rattle.theory.specs.Command.{read_in, goes_on}
use Rattle.model_command.specs.declared.Command.{Command as CodeCommand}
use Rattle.model_command.specs.declared.Command.TheVariants.{Site, Leaf, Condition, Test, Forbidden, Give, Name, End}
use Rattle.model_command.specs.CursorReadings.{CodeRead}
use Rattle.model_command.specs.declared.CommandError.{CommandError}
use Rattle.model_command.specs.declared.CommandError.TheVariants.{Unknown, Short}
use Rattle.std.specs.Prelude.{Ok, Err}
use Rattle.model_command.specs.CursorReadings.{command_of_in, read_of_in}
use Rattle.convert_forms.specs.OperandLayouts.{reads_on}

-- the cases of a command, and of a reading
pub command_cases : (P : CodeCommand → Type 0) → ((m n a w : ℕ) → P (Site m n a w)) → P Leaf → ((i : ℕ) → P (Condition i)) → P Test → P Forbidden
    → ((g a j : ℕ) → P (Give g a j)) → ((a : ℕ) → P (Name a)) → P End → (c : CodeCommand) → P c
command_cases P s l i t f g n e (Site m k a w) = s m k a w
command_cases P s l i t f g n e Leaf = l
command_cases P s l i t f g n e (Condition k) = i k
command_cases P s l i t f g n e Test = t
command_cases P s l i t f g n e Forbidden = f
command_cases P s l i t f g n e (Give k a j) = g k a j
command_cases P s l i t f g n e (Name a) = n a
command_cases P s l i t f g n e End = e

pub reading_cases : (P : CodeRead → Type 0) → ((c : CodeCommand) → P (Ok c)) → P (Err Unknown) → P (Err Short) → (r : CodeRead) → P r
reading_cases P w u s (Ok c) = w c
reading_cases P w u s (Err Unknown) = u
reading_cases P w u s (Err Short) = s

pub ends_here : (r : CodeRead) (c : CodeCommand) → r ≡ Ok c → c ≡ End → false ≡ reads_on r
unfolding reads_on
ends_here r c e d = sym (ap reads_on e ∙ ap (λ (c : CodeCommand). reads_on (Ok c)) d)

pub another : (r : CodeRead) (c : CodeCommand) → r ≡ Ok c → (c ≡ End → ⊥) → true ≡ reads_on r
unfolding reads_on
another r c e k =
    sym (ap reads_on e ∙ command_cases (λ (c : CodeCommand). (c ≡ End → ⊥) → reads_on (Ok c) ≡ true)
    (λ m n a w k. refl) (λ k. refl) (λ i k. refl) (λ k. refl) (λ k. refl) (λ g a j k. refl) (λ a k. refl) (λ k. absurd (k refl)) c k)

pub failed : (r : CodeRead) (e : CommandError) → r ≡ Err e → false ≡ reads_on r
unfolding reads_on
failed r e f = sym (ap reads_on f)

-- the code's answer is the definition's
pub goes_as : (F : Form) (B : List ℕ) (at : ℕ) (r : CodeRead) → read_of_in F B at r ≡ read_in F B at → reads_on r ≡ goes_on (read_in F B at)
unfolding reads_on goes_on read_of_in command_of_in
goes_as F B at r e =
    reading_cases (λ (r : CodeRead). reads_on r ≡ goes_on (read_of_in F B at r))
    (command_cases (λ (c : CodeCommand). reads_on (Ok c) ≡ goes_on (read_of_in F B at (Ok c)))
    (λ m n a w. refl) refl (λ i. refl) refl refl (λ g a j. refl) (λ a. refl) refl) refl refl r ∙ ap goes_on e
