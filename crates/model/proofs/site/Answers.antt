-- `model::site` meets its contract.
use mathlib.Core.Path.{ap, ◌∙◌}
use Prim.Native.Nat.{ℕ, ◌+◌}
use Rattle.theory.specs.Command.{byte_at}
use Rattle.theory.specs.Load.{site_in}
use Rattle.model_form.specs.Forms.{form_of}
use Rattle.model.proofs.site.Goals as goal

pub returns : goal.returns
unfolding site_in form_of
returns c = λ i. record {
  levels = c.byte_at.ensures i;
  conditions = c.byte_at-2.ensures i;
  actions = c.action_in.ensures i;
  weights =
      (c.byte_at-3.ensures ∙ ap (λ (k : ℕ). byte_at c.args.model.now (3 + k)) c.action_bytes.ensures.0) i;
}
