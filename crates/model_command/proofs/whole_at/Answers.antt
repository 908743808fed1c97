-- `model_command::whole_at` meets its contract: the tests are those of `command_in`: the site's byte first, then the
-- byte by its number; each operand is what its own reading gives.
use mathlib.Core.Path.{◌≡◌, refl, ◌∙◌, sym}
use mathlib.Core.Bool.{false}
use native.Mathlib.Omega.{arith}
use Prim.Native.Nat.{ℕ}
use borrow.Author.Tests.{ne_eqb, eq-eqb}
use lib.Dec.{eqb}
use Rattle.theory.specs.Command.{command_in}
use Rattle.model_command.specs.CursorReadings.{command_of_in}
use Rattle.model_command.proofs.whole_at.Goals as goal

-- past the first test the byte is not the site's
other : {o s t : ℕ} → (o ≡ s → ⊥) → s ≡ t → eqb o t ≡ false
other n e = ne_eqb _ _ (λ j. n (j ∙ sym e))

pub returns-then-op-site_byte : goal.returns-then-op-site_byte
unfolding command_in
returns-then-op-site_byte c = rw (← c.requires.0, eq-eqb _ _ (c.if-op-site_byte.true ∙ c.site_byte.ensures)) c.site_at.ensures

pub returns-in-16 : goal.returns-in-16
unfolding command_of_in command_in
returns-in-16 c = rw (← c.requires.0, other c.if-op-site_byte.false c.site_byte.ensures, c.in-16.is) refl

pub returns-in-17 : goal.returns-in-17
unfolding command_of_in command_in
returns-in-17 c = rw (← c.requires.0, other c.if-op-site_byte.false c.site_byte.ensures, c.in-17.is) (simp c.byte_at.ensures)

pub returns-in-18 : goal.returns-in-18
unfolding command_of_in command_in
returns-in-18 c = rw (← c.requires.0, other c.if-op-site_byte.false c.site_byte.ensures, c.in-18.is) refl

pub returns-in-19 : goal.returns-in-19
unfolding command_of_in command_in
returns-in-19 c = rw (← c.requires.0, other c.if-op-site_byte.false c.site_byte.ensures, c.in-19.is) refl

pub returns-in-32 : goal.returns-in-32
unfolding command_of_in command_in
returns-in-32 c = rw (← c.requires.0, other c.if-op-site_byte.false c.site_byte.ensures, c.in-32.is) (simp c.action_in.ensures)

pub returns-in-33 : goal.returns-in-33
unfolding command_of_in command_in
returns-in-33 c = rw (← c.requires.0, other c.if-op-site_byte.false c.site_byte.ensures, c.in-33.is) (simp (c.action_in-in-33.ensures, c.byte_at-in-33.ensures, c.behind_action.ensures.0))

pub returns-in-34 : goal.returns-in-34
unfolding command_of_in command_in
returns-in-34 c = rw (← c.requires.0, other c.if-op-site_byte.false c.site_byte.ensures, c.in-34.is) (simp (c.action_in-in-34.ensures, c.byte_at-in-34.ensures, c.behind_action.ensures.0))

pub returns-in-35 : goal.returns-in-35
unfolding command_of_in command_in
returns-in-35 c = rw (← c.requires.0, other c.if-op-site_byte.false c.site_byte.ensures, c.in-35.is) refl

pub returns-in-48 : goal.returns-in-48
unfolding command_of_in command_in
returns-in-48 c = rw (← c.requires.0, other c.if-op-site_byte.false c.site_byte.ensures, c.in-48.is) (simp c.action_in-in-48.ensures)

pub returns-in_default : goal.returns-in_default
unfolding command_of_in command_in
returns-in_default c =
    let no = λ (k : ℕ) (n : c.args.op ≡ k → ⊥). ne_eqb c.args.op k n in
    simp (← c.requires.0, other c.if-op-site_byte.false c.site_byte.ensures, no 16 (omega arith), no 17 (omega arith), no 18 (omega arith), no 19 (omega arith), no 32 (omega arith), no 33 (omega arith), no 34 (omega arith), no 35 (omega arith), no 48 (omega arith))
