-- `plain_evaluate::leaf_constant` meets its contract.
use mathlib.Core.Path.{sym, ap, ◌∙◌}
use native.Mathlib.Omega.{arith}
use mir.Syntax.{w64}
use mir.ValLaws.{to_z-of_z}
use Rattle.theory.specs.Diagram.{Linear}
use Rattle.plain_pass.proofs.Turns.{code_room, leaf_constant, no_leaf}
use Rattle.plain_evaluate.proofs.leaf_constant.Goals as goal

pub overflow_add-at : goal.overflow_add-at
overflow_add-at c = let r = code_room c.args.model.now c.args.at 16 (omega arith) (sym c.if-code-eq16.true ∙ c.code.ensures) in omega (arith, r.0, c.well_formed)

pub overflow_add-at-then-code-eq16 : goal.overflow_add-at-then-code-eq16
overflow_add-at-then-code-eq16 c = let r = code_room c.args.model.now c.args.at 16 (omega arith) (sym c.if-code-eq16.true ∙ c.code.ensures) in omega (arith, r.0, c.well_formed)

pub number-requires : goal.number-requires
number-requires c = let r = code_room c.args.model.now c.args.at 16 (omega arith) (sym c.if-code-eq16.true ∙ c.code.ensures) in omega (arith, r.0)

pub returns-then-code-eq16 : goal.returns-then-code-eq16
returns-then-code-eq16 c = to_z-of_z w64 _ (record { sfits = c.number.type_inv }) ∙ c.number.ensures ∙ (leaf_constant c.args.model.now c.args.at (sym c.if-code-eq16.true ∙ c.code.ensures))

pub returns-else-code-eq16 : goal.returns-else-code-eq16
returns-else-code-eq16 c = ap (λ (p : Linear). p.const) (no_leaf c.args.model.now c.args.at (λ e. c.if-code-eq16.false (c.code.ensures ∙ e)))
