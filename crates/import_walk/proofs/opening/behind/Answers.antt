use Rattle.import_walk.proofs.Joined.{behind_name, behind_other}
use Rattle.import_walk.proofs.opening.behind.Goals as goal

pub returns-then-kind-eq-NAME : goal.returns-then-kind-eq-NAME
returns-then-kind-eq-NAME c = behind_name _ _ _ c.requires c.if-kind-eq-NAME.true

pub returns : goal.returns
returns c = behind_other _ _ _ _ c.if-kind-eq-NAME.false c.past.ensures
