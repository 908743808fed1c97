-- `price_sure::worked` meets its contract: a power over the limits is refused as plain working refuses it (`worked_over`); else its magnitude is the
-- power that `roomed` requires (`worked_priced`), and the answer is that call's.
use native.Mathlib.Omega.{arith}
use Rattle.plain_worth.proofs.Answers.{exponent_fits}
use Rattle.price_sure.proofs.Entry.{worked_over, worked_priced}
use borrow.Author.Rules.{rules}
use Rattle.price_sure.proofs.worked.Goals as goal

pub overflow_mul-n : goal.overflow_mul-n
overflow_mul-n c = omega (arith, exponent_fits c.args.model.now c.requires.0.ready _ c.args.steps c.conditions-n.ensures c.requires.2)

pub returns-in_default : goal.returns-in_default
returns-in_default c = worked_over c.args.model.now c.requires.0.ready c.args.steps c.args.x c.conditions-n.ensures c.weights.ensures
    c.power_within.ensures c.requires.1 c.in_default.is _ _ c.refused.ensures

pub roomed-requires : goal.roomed-requires
roomed-requires c = (
  c.requires.0,
  c.requires.1,
  c.requires.2,
  worked_priced c.args.model.now c.requires.0.ready c.args.steps c.args.x
      c.conditions-n.ensures c.weights.ensures c.power_within.ensures _ c.in-Some.is
      (search rules) _ c.requires.3 c.mag.ensures,
)
