-- `plain_step::sites::settings` meets its contract.
use native.Mathlib.Omega.{arith}
use Rattle.plain_step.proofs.Lists.{within_widths, shifted}
use Rattle.plain_step.proofs.sites.settings.Goals as goal

pub overflow_shl-result : goal.overflow_shl-result
overflow_shl-result c = omega (arith, c.conditions.ensures, (within_widths _ c.requires).0)

pub returns : goal.returns
returns c = shifted _ _ c.conditions.ensures (within_widths _ c.requires).0
