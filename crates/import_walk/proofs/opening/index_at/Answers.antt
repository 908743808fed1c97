use mathlib.Core.Logic.{⊎_elim}
use Rattle.import_walk.proofs.Joined.{index_chance, index_level, index_none}
use Rattle.import_walk.proofs.opening.index_at.Goals as goal

pub returns-then-kind-eq-LEVEL : goal.returns-then-kind-eq-LEVEL
returns-then-kind-eq-LEVEL c = ⊎_elim
    (λ e. index_chance c.args.text.now c.args.at _ _ _ e c.digit_value.ensures c.byte_at.ensures)
    (λ e. index_level c.args.text.now c.args.at _ _ _ e.0 e.1 c.digit_value.ensures c.byte_at.ensures)
    c.if-kind-eq-LEVEL.either

pub returns-else-kind-eq-LEVEL : goal.returns-else-kind-eq-LEVEL
returns-else-kind-eq-LEVEL c = index_none c.args.text.now c.args.at _ c.if-kind-eq-LEVEL.false.0 c.if-kind-eq-LEVEL.false.1
