-- `prune_certificate::contradicts` meets its contract.
use Rattle.prune_certificate.proofs.Answers.{left_over, above_zero, below_zero, at_zero}
use Rattle.prune_certificate.proofs.contradicts.Goals as goal

pub returns-then-not-cancels : goal.returns-then-not-cancels
returns-then-not-cancels c = left_over _ _ c.cancels.result c.cancels.ensures c.if-not-cancels.true

pub returns-then-not-not_positive : goal.returns-then-not-not_positive
returns-then-not-not_positive c = above_zero _ _ c.cancels.result c.cancels.ensures c.if-not-cancels.false _ c.added_at-x.ensures c.not_positive.result c.not_positive.ensures c.if-not-not_positive.true

pub returns-then-not-is_zero : goal.returns-then-not-is_zero
returns-then-not-is_zero c = below_zero _ _ c.cancels.result c.cancels.ensures c.if-not-cancels.false _ c.added_at-x.ensures
    c.not_positive.result c.not_positive.ensures c.if-not-not_positive.false c.is_zero.result
    c.is_zero.ensures c.if-not-is_zero.true

pub returns : goal.returns
returns c = at_zero _ _ c.cancels.result c.cancels.ensures c.if-not-cancels.false _ c.added_at-x.ensures
    c.not_positive.result c.not_positive.ensures c.if-not-not_positive.false c.is_zero.result
    c.is_zero.ensures c.some_low.result c.some_low.ensures c.if-not-is_zero.false
