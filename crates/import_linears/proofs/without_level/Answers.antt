use Rattle.import_linears.proofs.Laws.{flat_as}
use Rattle.import_linears.proofs.without_level.Goals as goal

pub returns : goal.returns
returns c = flat_as _ c.equal-arg-1.given c.equal.ensures
