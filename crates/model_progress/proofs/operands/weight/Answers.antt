-- `model_progress::operands::weight` meets its contract.
use mathlib.Core.Path.{sym, ap, ◌∙◌}
use mathlib.Core.Bool.{◌&&◌}
use Prim.Native.Nat.{ℕ, ◌+◌, ◌*◌}
use lib.IntN.{pos}
use lib.Signed.{le_z}
use Rattle.theory.specs.Command.{signed, word_at, linear_in}
use Rattle.model_form.specs.Forms.{form_of}
use Rattle.model_progress.proofs.Numbers.{weight_only, no_weight, none_used}
use Rattle.model_progress.proofs.operands.weight.Goals as goal

pub returns-then-weight_of : goal.returns-then-weight_of
returns-then-weight_of c = let B = c.args.model.now in let F = form_of c.args.form in
    weight_only B F c.args.w c.args.from _ (none_used (linear_in F B c.args.from) c.used.result c.used.ensures)
    (sym c.if-weight_of.true ∙ c.weight_of.ensures ∙ ap (λ (n : ℕ). le_z (pos 0) (signed n) && le_z (signed n) (pos c.args.w))
    (c.word.ensures ∙ ap (λ (k : ℕ). word_at B (c.args.from + k * 4)) c.levels.ensures.0))

pub returns-else-weight_of : goal.returns-else-weight_of
returns-else-weight_of c = let B = c.args.model.now in let F = form_of c.args.form in
    c.if-weight_of.false ∙ no_weight B F c.args.w c.args.from
    (sym c.if-weight_of.false ∙ c.weight_of.ensures ∙ ap (λ (n : ℕ). le_z (pos 0) (signed n) && le_z (signed n) (pos c.args.w))
    (c.word.ensures ∙ ap (λ (k : ℕ). word_at B (c.args.from + k * 4)) c.levels.ensures.0))
