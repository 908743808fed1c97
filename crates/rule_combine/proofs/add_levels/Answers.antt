use mathlib.Core.Path.{refl, ◌∙◌}
use native.Mathlib.Omega.{arith}
use borrow.Author.Rules.{rules}
use Rattle.rule_node.proofs.Outcomes.{stops, ran_passed}
use Rattle.table.proofs.Words.{back}
use Rattle.rule_node.proofs.RuleSteps.{at_in}
use Rattle.rule_combine.proofs.LinearSteps.{adding_none, added_all, adding_number, adding_asks, adding_stops, adding_one}
use Rattle.rule_combine.proofs.add_levels.Goals as goal

pub loop-k-init : goal.loop-k-init
loop-k-init c = adding_none c.requires.0 c.args.i c.requires.1 c.requires.3 c.args.f c.requires.2

pub number-c-requires : goal.number-c-requires
number-c-requires c = let h = adding_number c.requires.0 c.args.i c.requires.1 c.requires.3 c.loop-k.invariant c.loop-k-test.true in
    (at_in c.args.i c.loop-k.invariant.ran.table.bare h.0, h.1)

pub bounds-levels-k : goal.bounds-levels-k
bounds-levels-k c = c.loop-k-test.true

pub overflow_cast-d : goal.overflow_cast-d
overflow_cast-d c = omega (arith, c.shared_slice_known-in-loop-k-1.given c.loop-k.k)

pub add_level-requires : goal.add_level-requires
add_level-requires c = adding_asks c.requires.0 c.args.i c.requires.1 c.requires.3 c.loop-k.invariant c.loop-k-test.true

pub shape_of-nodes-in_err-s : goal.shape_of-nodes-in_err-s
shape_of-nodes-in_err-s c = search (rules, c.add_level.auto, c.loop-k.invariant.nodes_length, c.loop-k.invariant.work_length)

pub shape_of-work-in_err-s : goal.shape_of-work-in_err-s
shape_of-work-in_err-s c = search (rules, c.add_level.auto, c.loop-k.invariant.nodes_length, c.loop-k.invariant.work_length)

pub returns-in_err-s : goal.returns-in_err-s
returns-in_err-s c = ran_passed (adding_stops c.requires.0 c.args.i c.requires.1 c.requires.3 c.loop-k.invariant c.loop-k-test.true
    (back c.number-c.result c.number-c.type_inv ∙ c.number-c.ensures) c.in_err-s.ensures (stops c.in_err-s.field-0.0)) c.from_residual.ensures.1

pub loop-k-preserved : goal.loop-k-preserved
loop-k-preserved c = adding_one c.requires.0 c.args.i c.requires.1 c.requires.3 c.loop-k.invariant c.loop-k-test.true
    (back c.number-c.result c.number-c.type_inv ∙ c.number-c.ensures) c.in_ok-s.ensures refl
    c.add_level.auto.nodes c.add_level.auto.work

pub shape_of-nodes : goal.shape_of-nodes
shape_of-nodes c = search (rules, c.loop-k.invariant.nodes_length)

pub shape_of-work : goal.shape_of-work
shape_of-work c = search (rules, c.loop-k.invariant.work_length)

pub returns : goal.returns
returns c = added_all c.requires.0 c.args.i c.requires.1 c.requires.3 c.loop-k.invariant c.loop-k-test.false
