-- `model_progress::operands::beyond` meets its contract.
use mathlib.Core.Path.{ap, ap₂, ◌∙◌}
use mathlib.Core.Bool.{not}
use Prim.Native.Nat.{ℕ, ◌+◌, ◌-◌, ◌*◌}
use native.Mathlib.Omega.{arith}
use borrow.Author.Tests.{le-ltb}
use Rattle.theory.specs.Diagram.{zeros}
use Rattle.theory.specs.Command.{signed_from}
use Rattle.model_form.specs.Forms.{form_of}
use Rattle.model_progress.proofs.Zeros.{beyond_from, none_beyond}
use Rattle.model_progress.proofs.operands.beyond.Goals as goal

pub returns-then-k-levels : goal.returns-then-k-levels
returns-then-k-levels c = ap not (c.zeros.ensures ∙ ap₂ (λ (k m : ℕ). zeros (signed_from c.args.model.now (c.args.from + m * 4) (k - m)))
    c.levels-levels.ensures.0 c.from-k.ensures) ∙ beyond_from c.args.model.now (form_of c.args.form) c.args.m c.args.from

pub returns-else-k-levels : goal.returns-else-k-levels
returns-else-k-levels c = le-ltb _ _ c.if-k-levels.false ∙ none_beyond c.args.model.now (form_of c.args.form) c.args.m c.args.from
    (let h = c.if-k-levels.false in omega (arith, c.levels-levels.ensures.0, c.from-k.ensures))
