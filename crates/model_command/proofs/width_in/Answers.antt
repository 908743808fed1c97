-- `model_command::width_in` meets its contract: the tests are those of `width_in`: the site's byte first, then the byte by its number; the
-- form's sizes are bounded by their contracts, so each width is below 1,024.
use mathlib.Core.Path.{◌≡◌, ◌∙◌, sym, ap}
use mathlib.Core.Bool.{false}
use Prim.Native.Nat.{ℕ, ◌+◌}
use native.Mathlib.Omega.{arith}
use borrow.Author.Tests.{ne_eqb, eq-eqb}
use lib.Dec.{eqb}
use Rattle.theory.specs.Command.{width_in}
use Rattle.model_command.proofs.width_in.Goals as goal

-- past the first test the byte is not the site's
other : {o s t : ℕ} → (o ≡ s → ⊥) → s ≡ t → eqb o t ≡ false
other n e = ne_eqb _ _ (λ j. n (j ∙ sym e))

pub returns-then-op-site_byte : goal.returns-then-op-site_byte
unfolding width_in
returns-then-op-site_byte c = (rw (eq-eqb _ _ (c.if-op-site_byte.true ∙ c.site_byte.ensures)) (ap (λ (n : ℕ). 4 + n) c.action_bytes.ensures.0), omega (arith, c.action_bytes.ensures.1))

pub returns-in-16 : goal.returns-in-16
unfolding width_in
returns-in-16 c = (rw (other c.if-op-site_byte.false c.site_byte.ensures, c.in-16.is) (ap (λ (n : ℕ). 1 + n) c.linear_bytes.ensures.0), omega (arith, c.linear_bytes.ensures.1))

pub returns-in-17 : goal.returns-in-17
unfolding width_in
returns-in-17 c = (rw (other c.if-op-site_byte.false c.site_byte.ensures, c.in-17.is), omega arith)

pub returns-in-18 : goal.returns-in-18
unfolding width_in
returns-in-18 c = (rw (other c.if-op-site_byte.false c.site_byte.ensures, c.in-18.is) (ap (λ (n : ℕ). 1 + n) c.linear_bytes-in-18.ensures.0), omega (arith, c.linear_bytes-in-18.ensures.1))

pub returns-in-19 : goal.returns-in-19
unfolding width_in
returns-in-19 c = (rw (other c.if-op-site_byte.false c.site_byte.ensures, c.in-19.is) c.forbidden_bytes.ensures.0, omega (arith, c.forbidden_bytes.ensures.1))

pub returns-in-32 : goal.returns-in-32
unfolding width_in
returns-in-32 c = (rw (other c.if-op-site_byte.false c.site_byte.ensures, c.in-32.is) c.behind_action.ensures.0, omega (arith, c.behind_action.ensures.1))

pub returns-in-33 : goal.returns-in-33
unfolding width_in
returns-in-33 c = (rw (other c.if-op-site_byte.false c.site_byte.ensures, c.in-33.is) (ap (λ (n : ℕ). n + 1) c.behind_action-in-33.ensures.0), omega (arith, c.behind_action-in-33.ensures.1))

pub returns-in-34 : goal.returns-in-34
unfolding width_in
returns-in-34 c = (rw (other c.if-op-site_byte.false c.site_byte.ensures, c.in-34.is) (ap (λ (n : ℕ). n + 1) c.behind_action-in-34.ensures.0), omega (arith, c.behind_action-in-34.ensures.1))

pub returns-in-35 : goal.returns-in-35
unfolding width_in
returns-in-35 c = (rw (other c.if-op-site_byte.false c.site_byte.ensures, c.in-35.is), omega arith)

pub returns-in-48 : goal.returns-in-48
unfolding width_in
returns-in-48 c = (rw (other c.if-op-site_byte.false c.site_byte.ensures, c.in-48.is) (ap (λ (n : ℕ). n + 16) c.behind_action-in-48.ensures.0), omega (arith, c.behind_action-in-48.ensures.1))

pub returns-in-255 : goal.returns-in-255
unfolding width_in
returns-in-255 c = (rw (other c.if-op-site_byte.false c.site_byte.ensures, c.in-255.is), omega arith)

pub returns-in_default : goal.returns-in_default
unfolding width_in
returns-in_default c =
    let no = λ (k : ℕ) (n : c.args.op ≡ k → ⊥). ne_eqb c.args.op k n in
    (simp (other c.if-op-site_byte.false c.site_byte.ensures, no 16 (omega arith), no 17 (omega arith), no 18 (omega arith), no 19 (omega arith), no 32 (omega arith), no 33 (omega arith), no 34 (omega arith), no 35 (omega arith), no 48 (omega arith), no 255 (omega arith)), omega arith)
