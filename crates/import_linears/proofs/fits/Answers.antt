use mathlib.Core.Path.{◌∙◌}
use Rattle.import_linears.proofs.Laws.{below, above}
use Rattle.import_linears.proofs.fits.Goals as goal

pub returns-then-z-geminus2147483648 : goal.returns-then-z-geminus2147483648
returns-then-z-geminus2147483648 c = above _ c.ranges.z c.if-z-geminus2147483648.true

pub returns-else-z-geminus2147483648 : goal.returns-else-z-geminus2147483648
returns-else-z-geminus2147483648 c = c.if-z-geminus2147483648.false ∙ below _ c.ranges.z c.if-z-geminus2147483648.false
