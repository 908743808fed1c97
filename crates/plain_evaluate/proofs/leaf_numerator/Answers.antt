-- `plain_evaluate::leaf_numerator` meets its contract.
use mathlib.Core.Path.{sym, ap, ◌∙◌}
use native.Mathlib.Omega.{arith}
use Rattle.whole.specs.Numerator.{words}
use Rattle.theory.specs.Diagram.{Linear}
use Rattle.plain_pass.specs.Pass.{numerator}
use Rattle.plain_pass.proofs.Ends.{none_worth}
use Rattle.plain_pass.proofs.Turns.{code_room, leaf_reads, no_leaf}
use Rattle.plain_evaluate.proofs.leaf_numerator.Goals as goal

pub code-requires : goal.code-requires
code-requires c = c.code_end.ensures

pub overflow_add-at : goal.overflow_add-at
overflow_add-at c = let r = code_room c.args.model.now c.args.at 16 (omega arith) (sym c.if-code-eq16.true ∙ c.code.ensures) in omega (arith, r.0, c.well_formed)

pub numerator_at-requires : goal.numerator_at-requires
numerator_at-requires c = let r = code_room c.args.model.now c.args.at 16 (omega arith) (sym c.if-code-eq16.true ∙ c.code.ensures) in (omega (arith, r.0), c.requires)

pub returns-then-code-eq16 : goal.returns-then-code-eq16
returns-then-code-eq16 c = c.numerator_at.ensures ∙ ap (λ (p : Linear). words (numerator c.args.x.now p)) (leaf_reads c.args.model.now c.args.at (sym c.if-code-eq16.true ∙ c.code.ensures))

pub returns-else-code-eq16 : goal.returns-else-code-eq16
unfolding words
returns-else-code-eq16 c = ap words (sym (none_worth c.args.x.now)) ∙ ap (λ (p : Linear). words (numerator c.args.x.now p))
    (no_leaf c.args.model.now c.args.at (λ e. c.if-code-eq16.false (c.code.ensures ∙ e)))
