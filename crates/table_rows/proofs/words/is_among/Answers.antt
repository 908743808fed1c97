-- `table_rows::words::is_among` meets its contract.
use mathlib.Core.Path.{◌∙◌}
use Rattle.table_rows.proofs.Judged.{among_is, among_below}
use Rattle.table_rows.proofs.words.is_among.Goals as goal

pub returns-else-z-ge1 : goal.returns-else-z-ge1
returns-else-z-ge1 c = c.if-z-ge1.false ∙ among_below c.word-z.ensures c.word-z.type_inv c.args.n c.if-z-ge1.false

pub returns-then-z-ge1 : goal.returns-then-z-ge1
returns-then-z-ge1 c = among_is c.word-z.ensures c.word-z.type_inv c.mag.ensures c.args.n c.if-z-ge1.true
