-- `load_command::put` meets its contract: what stopped has a number, which is no 0.
use mathlib.Core.Path.{refl}
use native.Mathlib.Omega.{arith}
use Rattle.load_command.proofs.Puts.{made_small, put_made, put_stopped}
use Rattle.load_command.proofs.put.Goals as goal

pub overflow_cast-made : goal.overflow_cast-made
overflow_cast-made c = let h = made_small c.in-Ok.is c.requires in omega arith

pub returns-in-Ok : goal.returns-in-Ok
returns-in-Ok c = put_made c.in-Ok.is refl refl c.push.ensures

pub returns-in-Err : goal.returns-in-Err
returns-in-Err c = put_stopped c.in-Err.is c.number.ensures refl
