-- A command with a linear that stands whole at an offset: what it leaves where it breaks no rule, and that the walk goes on behind it.
use mathlib.Core.Path.{◌≡◌, refl, sym, ap, ◌∙◌}
use mathlib.Core.Bool.{Bool, true, false}
use mathlib.Core.List.{List, ◌∷◌}
use Prim.Native.Nat.{ℕ, ◌+◌, ◌≤◌, ◌<◌}
use native.Mathlib.Omega.{arith}
use lib.Dec.{eqb}
use lib.ListN.{length}
use borrow.Author.Tests.{ne_eqb, lt-leb, le-ltb}
use Rattle.whole.specs.Cases.{if}
use Rattle.theory.specs.Widths.{stack_most}
use Rattle.theory.specs.Form.{Form, old_form, new_form, site_byte, linear_bytes}
use Rattle.theory.specs.Command.{Read, whole, unknown, short, push_leaf, push_test, byte_at, width_in, linear_in, command_in, read_in}
use Rattle.theory.specs.Verdict.{joined, is_weight}
use Rattle.model_facts.specs.declared.Seen.{Seen}
use Rattle.model_facts.specs.Seen.{seen}
use Rattle.model_command.specs.declared.Command.TheVariants.{Leaf, Test}
use Rattle.model_command.specs.CursorReadings.{command_of_in}
use Rattle.model_command.proofs.Forward.{whole_bytes, next_whole}
use Rattle.model_progress.specs.declared.Progress.{Progress as CodeProgress}
use Rattle.model_progress.specs.GivenFlags.{Later}
use Rattle.model_progress.proofs.StateAfter.{after_leaf, after_test}
use Rattle.model_command_rules.proofs.RuleTests.{begun_rules}
use Rattle.model.specs.Answers.{is_end}
use Rattle.model.specs.Walk.{Walk}
use Rattle.model.proofs.Walk.{turn_to}

-- the byte of a command with a linear chooses it, in either form
leaf_byte : (form : Form) (op : ℕ) → op ≡ 0x10 → (eqb op (site_byte form) ≡ false) × (eqb op 0x10 ≡ true)
leaf_byte old_form op e = (rw e refl, rw e refl)
leaf_byte new_form op e = (rw e refl, rw e refl)

test_byte : (form : Form) (op : ℕ) → op ≡ 0x12 → (eqb op (site_byte form) ≡ false) × (eqb op 0x10 ≡ false) × (eqb op 0x11 ≡ false) × (eqb op 0x12 ≡ true)
test_byte old_form op e = (rw e refl, rw e refl, rw e refl, rw e refl)
test_byte new_form op e = (rw e refl, rw e refl, rw e refl, rw e refl)

second : {A : Type 0} (b₁ b₂ : Bool) (x y z : A) → b₁ ≡ false → b₂ ≡ true → y ≡ if b₁ x (if b₂ y z)
second b₁ b₂ x y z e₁ e₂ = rw (e₁, e₂) refl

fourth : {A : Type 0} (b₁ b₂ b₃ b₄ : Bool) (x p q y z : A) → b₁ ≡ false → b₂ ≡ false → b₃ ≡ false → b₄ ≡ true → y ≡ if b₁ x (if b₂ p (if b₃ q (if b₄ y z)))
fourth b₁ b₂ b₃ b₄ x p q y z e₁ e₂ e₃ e₄ = rw (e₁, e₂, e₃, e₄) refl

none_left : {r : Read} (b₁ b₂ b₃ : Bool) → b₁ ≡ false → b₂ ≡ false → b₃ ≡ false → r ≡ if b₁ short (if b₂ unknown (if b₃ short r))
none_left b₁ b₂ b₃ e₁ e₂ e₃ = rw (e₁, e₂, e₃) refl

module _ (form : Form) (B : List ℕ) (at : ℕ) (h : at + (1 + linear_bytes form) ≤ length B) where
  reads : 1 + linear_bytes form ≡ width_in form (byte_at B at) → whole (command_in form B at) ≡ read_in form B at
  unfolding read_in
  reads e = none_left _ _ _ (lt-leb (length B) at (omega arith)) (ne_eqb (width_in form (byte_at B at)) 0 (λ z. omega (arith, e)))
      (le-ltb (length B) (at + width_in form (byte_at B at)) (omega (arith, e)))

  leaf_wide : byte_at B at ≡ 0x10 → 1 + linear_bytes form ≡ width_in form (byte_at B at)
  unfolding width_in
  leaf_wide e = let o = leaf_byte form (byte_at B at) e in second (eqb (byte_at B at) (site_byte form)) (eqb (byte_at B at) 0x10) _ _ _ o.0 o.1

  test_wide : byte_at B at ≡ 0x12 → 1 + linear_bytes form ≡ width_in form (byte_at B at)
  unfolding width_in
  test_wide e = let o = test_byte form (byte_at B at) e in fourth (eqb (byte_at B at) (site_byte form)) (eqb (byte_at B at) 0x10) (eqb (byte_at B at) 0x11) (eqb (byte_at B at) 0x12) _ _ _ _ _ o.0 o.1 o.2 o.3

  leaf_read : byte_at B at ≡ 0x10 → whole (command_of_in form B at Leaf) ≡ read_in form B at
  unfolding command_of_in command_in
  leaf_read e = let o = leaf_byte form (byte_at B at) e in ap whole (second (eqb (byte_at B at) (site_byte form)) (eqb (byte_at B at) 0x10) _ _ _ o.0 o.1) ∙ reads (leaf_wide e)

  test_read : byte_at B at ≡ 0x12 → whole (command_of_in form B at Test) ≡ read_in form B at
  unfolding command_of_in command_in
  test_read e = let o = test_byte form (byte_at B at) e in ap whole (fourth (eqb (byte_at B at) (site_byte form)) (eqb (byte_at B at) 0x10) (eqb (byte_at B at) 0x11) (eqb (byte_at B at) 0x12) _ _ _ _ _ o.0 o.1 o.2 o.3) ∙ reads (test_wide e)

  module _ {s : CodeProgress} {F : List Bool} (b : s.begun ≡ true) (w : Walk form B at s F) where
    abbrev Behind : Seen → Type 0
    Behind t = Walk form B (at + (1 + linear_bytes form)) (record { begun = s.begun; site = s.site; seen = t }) F

    pub leaf_passed : byte_at B at ≡ 0x10 → (n : ℕ) (x : Bool) (t : Seen) → Later s F (push_leaf (linear_in form B (at + 1))) n → n ≡ 0 → x ≡ is_weight s.site.weights (linear_in form B (at + 1))
        → (s.seen.len < stack_most → seen t ≡ record { next_step = false; weights = x; forbids = false } ∷ seen s.seen) → Behind t
    unfolding command_of_in is_end
    leaf_passed e n x t l z f g =
        let r = leaf_read e in
        let k = l w.so_far w.stands ∙ begun_rules w.stands form (push_leaf (linear_in form B (at + 1))) b in
        turn_to w Leaf n (at + (1 + linear_bytes form)) _ F r k z refl (ap (λ (i : ℕ). at + i) (leaf_wide e) ∙ sym (next_whole form B at (whole_bytes form B at _ r).0))
        (after_leaf form w.stands _ x t f g (sym k ∙ z))

    pub test_passed : byte_at B at ≡ 0x12 → (n : ℕ) (t : Seen) → Later s F (push_test (linear_in form B (at + 1))) n → n ≡ 0
        → (2 ≤ s.seen.len → s.seen.len ≤ stack_most → seen t ≡ joined false (seen s.seen)) → Behind t
    unfolding command_of_in is_end
    test_passed e n t l z g =
        let r = test_read e in
        let k = l w.so_far w.stands ∙ begun_rules w.stands form (push_test (linear_in form B (at + 1))) b in
        turn_to w Test n (at + (1 + linear_bytes form)) _ F r k z refl (ap (λ (i : ℕ). at + i) (test_wide e) ∙ sym (next_whole form B at (whole_bytes form B at _ r).0))
        (after_test form w.stands _ t g (sym k ∙ z))
