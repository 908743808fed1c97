use Rattle.import_look.proofs.Telling.{leaf_forbidden, leaf_worth}
use Rattle.import_look.proofs.leaf.Goals as goal

pub returns-then-byte_at-eq102 : goal.returns-then-byte_at-eq102
returns-then-byte_at-eq102 c = leaf_forbidden _ _ _ c.skip-i.ensures c.byte_at.ensures c.if-byte_at-eq102.true

pub returns : goal.returns
returns c = leaf_worth _ _ _ c.skip-i.ensures c.byte_at.ensures c.if-byte_at-eq102.false c.sum_at-a.result c.sum_at-a.ensures
