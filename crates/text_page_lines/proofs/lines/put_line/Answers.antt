-- `text_page_lines::lines::put_line` meets its contract.
use native.Mathlib.Omega.{arith}
use Rattle.whole_division.specs.Words.{whole_as}
use Rattle.text_page_lines.proofs.LineParts.{line_put}
use Rattle.text_page_lines.proofs.lines.put_line.Goals as goal

pub returns : goal.returns
returns c = line_put c.args.h c.args.a (whole_as c.args.x) c.args.name.now (omega (arith, c.requires.1))
    c.steps_column-steps.ensures c.text_column-value.ensures c.put_bytes-n.ensures c.put_bytes-m.ensures
    c.put_name.ensures
