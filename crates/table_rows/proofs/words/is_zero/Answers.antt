-- `table_rows::words::is_zero` meets its contract.
use Rattle.table_rows.proofs.Judged.{zero_is}
use Rattle.table_rows.proofs.words.is_zero.Goals as goal

pub returns : goal.returns
returns c = zero_is c.word.ensures c.word.type_inv c.mag.ensures
