-- `table_rows::words::magnitude` meets its contract.
use Rattle.table_rows.proofs.Judged.{magnitude_is}
use Rattle.table_rows.proofs.words.magnitude.Goals as goal

pub returns : goal.returns
returns c = magnitude_is c.word.ensures c.word.type_inv c.mag.ensures
