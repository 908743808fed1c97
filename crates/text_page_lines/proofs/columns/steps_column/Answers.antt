-- `text_page_lines::columns::steps_column` meets its contract.
use Rattle.text_page_lines.proofs.ColumnDigits.{steps_are}
use Rattle.text_page_lines.proofs.columns.steps_column.Goals as goal

pub returns : goal.returns
returns c = steps_are c.args.h c.requires
