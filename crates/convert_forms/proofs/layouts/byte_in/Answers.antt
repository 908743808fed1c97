-- `convert_forms::layouts::byte_in` meets its contract.
use mathlib.Core.Path.{refl, sym, ◌∙◌}
use borrow.Author.Tests.{eq-eqb, ne_eqb}
use Rattle.convert_forms.specs.Forms.{byte_in}
use Rattle.convert_forms.proofs.layouts.byte_in.Goals as goal

pub returns-then-op-site_byte : goal.returns-then-op-site_byte
unfolding byte_in
returns-then-op-site_byte c = rw (eq-eqb _ _ (c.if-op-site_byte.true ∙ c.site_byte.ensures)) c.site_byte-then-op-site_byte.ensures

pub returns-else-op-site_byte : goal.returns-else-op-site_byte
unfolding byte_in
returns-else-op-site_byte c = rw (ne_eqb _ _ (λ e. c.if-op-site_byte.false (e ∙ sym c.site_byte.ensures))) refl
