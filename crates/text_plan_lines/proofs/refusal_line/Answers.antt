-- `text_plan_lines::refusal_line` meets its contract.
use native.Mathlib.Omega.{arith}
use mathlib.Core.Path.{ap}
use lib.ListN.{length}
use Rattle.text_decimal.proofs.Puts.{rename}
use Rattle.text_plan_lines.proofs.Numbered.{refusal_is}
use Rattle.text_plan_lines.proofs.refusal_line.Goals as goal

pub put_line-requires : goal.put_line-requires
put_line-requires c = let n = c.from.ensures in
    rw n (omega (arith, c.requires, ap length (refusal_is c.args.number c.args.place)))

pub returns : goal.returns
returns c = rename (refusal_is c.args.number c.args.place) (rw c.from.ensures at c.put_line.ensures)
