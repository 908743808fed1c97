-- `rule_unary_node::leaf::stays` meets its contract: a case of `stays_by` for each rule; the rules left over are sides.
use mathlib.Core.Path.{◌∙◌}
use native.Mathlib.Omega.{arith}
use Rattle.rule_unary_node.proofs.LeafResults.{stays_side, stays_number, stays_scale, stays_not}
use Rattle.rule_unary_node.proofs.leaf.stays.Goals as goal

pub returns-in-3 : goal.returns-in-3
returns-in-3 c = stays_scale c.args.op c.args.p c.args.q _ c.number_of.result c.number_of.type_inv
    c.number_of.ensures c.in-3.is c.stays_none.ensures

pub returns-in-4 : goal.returns-in-4
returns-in-4 c = stays_not c.args.op c.args.p c.args.q _ (omega arith) (λ e. absurd (omega arith))

pub returns-in-6 : goal.returns-in-6
returns-in-6 c = c.none_at.ensures ∙ stays_number c.args.op c.args.p c.args.q _ (omega (arith, c.in-6.is)) (omega (arith, c.in-6.is))

pub returns-in_default : goal.returns-in_default
returns-in_default c = stays_side c.args.op c.args.p c.args.q _ (let k = c.requires.0.from in omega arith)

pub returns-in_default-2 : goal.returns-in_default-2
returns-in_default-2 c = stays_side c.args.op c.args.p c.args.q _ (let k = c.requires.0.from in omega arith)
