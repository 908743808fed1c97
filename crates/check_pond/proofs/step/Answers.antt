-- `check_pond::step` meets its contract: what an operation leaves stands, its result the last root that is held.
use Rattle.check_pond.proofs.Operations.{stepped}
use Rattle.check_pond.proofs.step.Goals as goal

pub returns-clause-ok : goal.returns-clause-ok
returns-clause-ok g c = λ ok. stepped c.operate-r.ensures c.operate-r.auto.roots c.requires.2 ok
