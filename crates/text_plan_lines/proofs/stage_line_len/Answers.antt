-- `text_plan_lines::stage_line_len` meets its contract.
use mathlib.Core.Path.{ap, ◌∙◌}
use native.Mathlib.Omega.{arith}
use lib.ListN.{length}
use Rattle.text_plan_lines.proofs.Numbered.{stage_is}
use Rattle.text_plan_lines.proofs.stage_line_len.Goals as goal

pub returns : goal.returns
returns c = (c.line_len.ensures.0 ∙ ap length (stage_is c.args.stages.now c.args.h c.stage_numbers-xs.ensures), omega (arith, c.line_len.ensures.1, ap length c.stage_numbers-xs.ensures))
