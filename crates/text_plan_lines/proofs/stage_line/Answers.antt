-- `text_plan_lines::stage_line` meets its contract.
use native.Mathlib.Omega.{arith}
use mathlib.Core.Path.{ap}
use lib.ListN.{length}
use Rattle.text_decimal.proofs.Puts.{rename}
use Rattle.text_plan_lines.proofs.Numbered.{stage_is}
use Rattle.text_plan_lines.proofs.stage_line.Goals as goal

pub put_line-requires : goal.put_line-requires
put_line-requires c = omega (arith, c.requires.2, ap length (stage_is c.args.stages.now c.args.h c.stage_numbers-xs.ensures))

pub returns : goal.returns
returns c = rename (stage_is c.args.stages.now c.args.h c.stage_numbers-xs.ensures) c.put_line.ensures
