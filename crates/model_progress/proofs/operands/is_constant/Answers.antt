-- `model_progress::operands::is_constant` meets its contract.
use mathlib.Core.Path.{ap, ◌∙◌}
use Prim.Native.Nat.{ℕ}
use Rattle.theory.specs.Diagram.{zeros}
use Rattle.theory.specs.Command.{signed_from}
use Rattle.model_form.specs.Forms.{form_of}
use Rattle.model_progress.proofs.Zeros.{constant_from}
use borrow.Author.Rules.{rules}
use Rattle.model_progress.proofs.operands.is_constant.Goals as goal

pub levels-requires : goal.levels-requires
levels-requires c = search rules

pub zeros-requires : goal.zeros-requires
zeros-requires c = search rules

pub returns : goal.returns
returns c = c.zeros.ensures ∙ ap (λ (k : ℕ). zeros (signed_from c.args.model.now c.args.from k)) c.levels.ensures.0 ∙ constant_from c.args.model.now (form_of c.args.form) c.args.from
