-- `text_page_lines::columns::text_column` meets its contract.
use Rattle.whole_division.specs.Words.{whole_as}
use Rattle.text_page_lines.proofs.ColumnDigits.{as_none, as_number}
use Rattle.text_page_lines.proofs.columns.text_column.Goals as goal

pub returns-then-a-eq0 : goal.returns-then-a-eq0
returns-then-a-eq0 c = as_none c.args.a (whole_as c.args.x) c.if-a-eq0.true c.none_column.ensures

pub returns : goal.returns
returns c = as_number c.args.a (whole_as c.args.x) c.if-a-eq0.false c.value_column.ensures
