-- `convert_model::forbidding::is_forbidden` meets its contract.
use Rattle.convert_model.proofs.Thirteen.{forbids_here, not_13, failed}
use Rattle.convert_model.proofs.forbidding.is_forbidden.Goals as goal

pub returns-in-Forbidden : goal.returns-in-Forbidden
returns-in-Forbidden c = forbids_here c.args.read _ c.in-Ok.is c.in-Forbidden.is

pub returns-in_default : goal.returns-in_default
returns-in_default c = not_13 c.args.read _ c.in-Ok.is c.in_default.not-Forbidden

pub returns-in-Err : goal.returns-in-Err
returns-in-Err c = failed c.args.read _ c.in-Err.is
