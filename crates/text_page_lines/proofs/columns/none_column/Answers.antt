-- `text_page_lines::columns::none_column` meets its contract.
use Rattle.text_page_lines.proofs.ColumnDigits.{none_are}
use Rattle.text_page_lines.proofs.columns.none_column.Goals as goal

pub returns : goal.returns
returns c = none_are c.blank-out.ensures c.copy_from_slice.ensures.after
