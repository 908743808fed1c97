-- `text_plan_lines::first_line` meets its contract.
use native.Mathlib.Omega.{arith}
use mathlib.Core.Path.{ap}
use lib.ListN.{length}
use Rattle.text_decimal.proofs.Puts.{rename}
use Rattle.text_plan_lines.proofs.Numbered.{first_is}
use Rattle.text_plan_lines.proofs.first_line.Goals as goal

pub put_line-requires : goal.put_line-requires
put_line-requires c = omega (arith, c.requires, ap length (first_is c.args.site c.args.horizon c.first_numbers-xs.ensures))

pub returns : goal.returns
returns c = rename (first_is c.args.site c.args.horizon c.first_numbers-xs.ensures) c.put_line.ensures
