-- `rule_apply_leaves::best_constants` meets its contract: the cases of `better_constant`; two constants within the limits have a difference that fits.
use Rattle.rule_apply_leaves.proofs.Constants.{constants_fit, constants_over, constants_decide}
use Rattle.rule_apply_leaves.proofs.best_constants.Goals as goal

pub overflow_sub-d : goal.overflow_sub-d
overflow_sub-d c = constants_fit c.args.nodes.now c.args.f c.args.g c.requires

pub returns-then-mag-gt-LIMIT : goal.returns-then-mag-gt-LIMIT
returns-then-mag-gt-LIMIT c = constants_over c.args.nodes.now c.args.f c.args.g c.requires c.args.count c.mag.ensures c.if-mag-gt-LIMIT.true

pub returns : goal.returns
returns c = constants_decide c.args.nodes.now c.args.f c.args.g c.requires c.args.count c.mag.ensures c.if-mag-gt-LIMIT.false c.decided.ensures
