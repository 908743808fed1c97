-- `plain_limits::times` meets its contract.
use Rattle.std.proofs.Common.{◌∙◌, rules}
use Rattle.plain_limits.proofs.Judge.{times_over, times_none, times_is}
use Rattle.plain_limits.proofs.times.Goals as goal

pub returns-in_err-p : goal.returns-in_err-p
returns-in_err-p c = c.from_residual.ensures ∙ times_over c.args.p c.args.z c.in_err-p.was

pub returns-in_err-z : goal.returns-in_err-z
returns-in_err-z c = c.from_residual-in_err-z.ensures ∙ times_none c.args.p c.args.z _ c.in_ok-p.was (search rules) c.in_err-z.was

pub returns : goal.returns
returns c = times_is c.args.p c.args.z _ c.in_ok-p.was (search rules) _ c.in_ok-z.was
    (search rules) c.product.ensures
