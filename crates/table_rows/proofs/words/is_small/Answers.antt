-- `table_rows::words::is_small` meets its contract.
use Rattle.table_rows.proofs.Judged.{small_is}
use Rattle.table_rows.proofs.words.is_small.Goals as goal

pub returns : goal.returns
returns c = small_is c.word.ensures c.word.type_inv c.mag.ensures
