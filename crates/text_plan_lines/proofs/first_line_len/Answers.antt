-- `text_plan_lines::first_line_len` meets its contract.
use mathlib.Core.Path.{ap, ◌∙◌}
use native.Mathlib.Omega.{arith}
use lib.ListN.{length}
use Rattle.text_plan_lines.proofs.Numbered.{first_is}
use Rattle.text_plan_lines.proofs.first_line_len.Goals as goal

pub returns : goal.returns
returns c = (c.line_len.ensures.0 ∙ ap length (first_is c.args.site c.args.horizon c.first_numbers-xs.ensures), omega (arith, c.line_len.ensures.1, ap length c.first_numbers-xs.ensures))
