-- An action operand, of one byte or of two.
use mathlib.Core.Path.{◌≡◌, ap₂, ◌∙◌}
use mathlib.Core.List.{List}
use Prim.Native.Nat.{ℕ, ◌+◌, ◌*◌}
use native.Mathlib.Omega.{arith}
use Rattle.theory.specs.Command.{bytes_at, byte_at, action_at}
use Rattle.model_form.specs.declared.Form.{Form as CodeForm}
use Rattle.model_form.specs.declared.Form.TheVariants.{Old, New}
use Rattle.model_form.specs.Forms.{form_of}

module _ (B : List ℕ) (at : ℕ) (f : CodeForm) where
  pub one_byte : (x b : ℕ) → f ≡ Old → x ≡ b → b ≡ byte_at B at → x ≡ action_at (form_of f) B at
  unfolding form_of bytes_at
  one_byte x b e p q = rw e (p ∙ q ∙ omega arith)

  pub two_bytes : (x b c : ℕ) → f ≡ New → x ≡ b + c * 256 → b ≡ byte_at B at → c ≡ byte_at B (at + 1) → x ≡ action_at (form_of f) B at
  unfolding form_of bytes_at
  two_bytes x b c e p q s = rw e (p ∙ ap₂ (λ (m n : ℕ). m + n * 256) q (s ∙ omega arith))
