-- `rule_unary_node::leaf::acted` meets its contract: a case of `acted_node` for each rule; `Acts` gives what each callee requires, and the rules left over are sides, which keep the leaf.
use mathlib.Core.Path.{◌∙◌, sym}
use native.Mathlib.Omega.{arith}
use Rattle.rule_leaves.proofs.Figures.{small_as}
use Rattle.rule_unary_node.proofs.LeafResults.{scaled_as, shifted_as, acted_complement, acted_number, acted_side}
use Rattle.rule_unary_node.proofs.leaf.acted.Goals as goal

pub returns-in-3 : goal.returns-in-3
returns-in-3 c = scaled_as c.args.p c.args.q c.args.x c.number_of.result c.number_of.type_inv c.number_of.ensures c.in-3.is c.product.ensures

pub shifted-requires : goal.shifted-requires
shifted-requires c = (c.requires.0, small_as c.number_of-in-4.result c.number_of-in-4.type_inv c.number_of-in-4.ensures (c.requires.1.shifts c.in-4.is))

pub returns-in-4 : goal.returns-in-4
returns-in-4 c = shifted_as c.args.p c.args.q c.args.x c.number_of-in-4.result c.number_of-in-4.type_inv c.number_of-in-4.ensures c.in-4.is c.shifted.ensures

pub complemented-requires : goal.complemented-requires
complemented-requires c = (c.requires.0, c.requires.1.weighs c.in-5.is)

pub returns-in-5 : goal.returns-in-5
returns-in-5 c = c.complemented.ensures ∙ sym (acted_complement c.args.p c.args.q c.args.x c.in-5.is)

pub numbered-requires : goal.numbered-requires
numbered-requires c = c.requires.1.numbers c.in-6.is

pub returns-in-6 : goal.returns-in-6
returns-in-6 c = c.numbered.ensures ∙ sym (acted_number c.args.p c.args.q c.args.x c.in-6.is)

pub returns-in_default : goal.returns-in_default
returns-in_default c = let k = c.requires.1.from in sym (acted_side c.args.p c.args.q c.args.x (omega arith) c.requires.1.to)
