-- `convert_forms::layouts::layout_in` meets its contract: the tests are those of `layout_in`: the site's byte first, then the byte by
-- its number; the sizes of actions and levels are the form's contracts.
use mathlib.Core.Path.{sym, ap, ◌∙◌}
use Prim.Native.Nat.{ℕ, ◌*◌}
use borrow.Author.Rules.{rules}
use borrow.Author.Tests.{eq-eqb, ne_eqb}
use Rattle.convert_forms.specs.Forms.{layout, layout_in}
use Rattle.convert_forms.proofs.layouts.layout_in.Goals as goal

pub returns-then-op-site_byte : goal.returns-then-op-site_byte
unfolding layout_in
returns-then-op-site_byte c = rw (eq-eqb _ _ (c.if-op-site_byte.true ∙ c.site_byte.ensures)) (c.parts.ensures ∙ ap (λ (n : ℕ). layout 2 n 1) c.action_bytes-actions.ensures.0)

pub returns-in-16 : goal.returns-in-16
unfolding layout_in
returns-in-16 c = rw (ne_eqb _ _ (λ e. c.if-op-site_byte.false (e ∙ sym c.site_byte.ensures)), c.in-16.is)
    (c.parts-in-16.ensures ∙ ap (λ (n : ℕ). layout 0 (n * 4) 4) c.levels-coefficients.ensures.0)

pub returns-in-17 : goal.returns-in-17
unfolding layout_in
returns-in-17 c = rw (ne_eqb _ _ (λ e. c.if-op-site_byte.false (e ∙ sym c.site_byte.ensures)), c.in-17.is) c.parts-in-17.ensures

pub returns-in-18 : goal.returns-in-18
unfolding layout_in
returns-in-18 c = rw (ne_eqb _ _ (λ e. c.if-op-site_byte.false (e ∙ sym c.site_byte.ensures)), c.in-18.is)
    (c.parts-in-18.ensures ∙ ap (λ (n : ℕ). layout 0 (n * 4) 4) c.levels-coefficients.ensures.0)

pub returns-in-32 : goal.returns-in-32
unfolding layout_in
returns-in-32 c = rw (ne_eqb _ _ (λ e. c.if-op-site_byte.false (e ∙ sym c.site_byte.ensures)), c.in-32.is)
    (c.parts-in-32.ensures ∙ ap (λ (n : ℕ). layout 0 n 0) c.action_bytes-actions.ensures.0)

pub returns-in-33 : goal.returns-in-33
unfolding layout_in
returns-in-33 c = rw (ne_eqb _ _ (λ e. c.if-op-site_byte.false (e ∙ sym c.site_byte.ensures)), c.in-33.is)
    (c.parts-in-33.ensures ∙ ap (λ (n : ℕ). layout 0 n 1) c.action_bytes-actions.ensures.0)

pub returns-in-34 : goal.returns-in-34
unfolding layout_in
returns-in-34 c = rw (ne_eqb _ _ (λ e. c.if-op-site_byte.false (e ∙ sym c.site_byte.ensures)), c.in-34.is)
    (c.parts-in-34.ensures ∙ ap (λ (n : ℕ). layout 0 n 1) c.action_bytes-actions.ensures.0)

pub returns-in-48 : goal.returns-in-48
unfolding layout_in
returns-in-48 c = rw (ne_eqb _ _ (λ e. c.if-op-site_byte.false (e ∙ sym c.site_byte.ensures)), c.in-48.is)
    (c.parts-in-48.ensures ∙ ap (λ (n : ℕ). layout 0 n 16) c.action_bytes-actions.ensures.0)

pub returns-in_default : goal.returns-in_default
unfolding layout_in
returns-in_default c = search rules
