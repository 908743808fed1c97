-- `table_rows::words::kind` meets its contract.
use Rattle.table_rows.proofs.Judged.{kind_is, kind_below}
use Rattle.table_rows.proofs.words.kind.Goals as goal

pub returns-then-z-lt0 : goal.returns-then-z-lt0
returns-then-z-lt0 c = kind_below c.word-z.ensures c.word-z.type_inv c.if-z-lt0.true

pub returns-else-z-lt0 : goal.returns-else-z-lt0
returns-else-z-lt0 c = kind_is c.word-z.ensures c.word-z.type_inv c.mag.ensures c.if-z-lt0.false
