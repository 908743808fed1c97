-- `plain_worth::worth` meets its contract: the refusals come in the order of `plain_of_lem`; a state that is accepted stands for its point, as
-- `worked` requires (`stands`), and its worth is the answer (`answered`).
use mathlib.Core.Path.{◌∙◌}
use Rattle.plain_worth.proofs.Entry.{refused_early, refused_state, passed, stands, answered}
use Rattle.plain_worth.proofs.worth.Goals as goal

pub returns-then-early-ne0 : goal.returns-then-early-ne0
returns-then-early-ne0 c = refused_early c.args.bytes.now c.args.steps c.early-early.ensures _ c.if-early-ne0.true c.refused.ensures

pub returns-then-not-accepted : goal.returns-then-not-accepted
returns-then-not-accepted c = refused_state c.args.bytes.now c.args.steps c.early-early.ensures c.if-early-ne0.false c.args.q (c.from-m.ensures ∙ c.levels.ensures)
    (c.from-n.ensures ∙ c.conditions.ensures) c.accepted.ensures c.if-not-accepted.true c.refused-then-not-accepted.ensures

pub worked-requires : goal.worked-requires
worked-requires c = (
  stands c.args.bytes.now c.args.steps c.early-early.ensures c.if-early-ne0.false c.args.q (c.from-m.ensures ∙ c.levels.ensures)
      (c.from-n.ensures ∙ c.conditions.ensures) c.accepted.ensures c.if-not-accepted.false c.point.ensures,
  (passed c.args.bytes.now
      c.args.steps c.early-early.ensures c.if-early-ne0.false).steps.1,
)

pub returns : goal.returns
returns c = answered c.args.bytes.now c.args.steps c.early-early.ensures c.if-early-ne0.false c.args.q (c.from-m.ensures ∙ c.levels.ensures)
    (c.from-n.ensures ∙ c.conditions.ensures) c.accepted.ensures c.if-not-accepted.false c.point.ensures c.worked.ensures
    c.answer.ensures
