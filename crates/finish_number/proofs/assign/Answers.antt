-- `finish_number::assign` meets its contract: the two writes are `assigned` by definition; both places lie within 2 cap words.
use mathlib.Core.Path.{refl}
use native.Mathlib.Omega.{arith}
use lib.ListN.{length-set}
use Rattle.finish_number.specs.Number.{assigned}
use Rattle.finish_number.proofs.assign.Goals as goal

pub bounds-work-cap : goal.bounds-work-cap
bounds-work-cap c = simp length-set (let a = c.requires.0 in let b = c.requires.3 in omega arith)

pub returns : goal.returns
unfolding assigned
returns c = (refl, refl)
