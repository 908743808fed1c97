use Rattle.import_look.proofs.Telling.{cond_yes, cond_no}
use Rattle.import_look.proofs.condition.Goals as goal

pub returns-then-b-ge48 : goal.returns-then-b-ge48
returns-then-b-ge48 c = cond_yes _ _ _ _ c.byte_at-b.ensures c.if-b-ge48.true

pub returns-else-b-ge48 : goal.returns-else-b-ge48
returns-else-b-ge48 c = cond_no _ _ _ _ c.byte_at-b.ensures c.if-b-ge48.false
