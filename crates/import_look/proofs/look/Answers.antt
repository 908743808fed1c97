-- `import_look::look` meets its contract: the byte behind white space decides: a condition of this step, one of the next, or else a comparison that begins at `at`.
use Rattle.import_look.proofs.Telling.{looks_now, looks_later, looks_other}
use native.Mathlib.Omega.{arith}
use Rattle.import_look.proofs.look.Goals as goal

pub returns-in-67 : goal.returns-in-67
returns-in-67 c = looks_now _ _ _ c.skip-i.ensures c.byte_at.ensures c.in-67.is c.condition.ensures

pub returns-in-78 : goal.returns-in-78
returns-in-78 c = looks_later _ _ _ c.skip-i.ensures c.byte_at.ensures c.in-78.is c.condition-in-78.ensures

pub returns-in_default : goal.returns-in_default
returns-in_default c = looks_other _ _ _ c.skip-i.ensures c.byte_at.ensures (omega arith) (omega arith) c.comparison.ensures
