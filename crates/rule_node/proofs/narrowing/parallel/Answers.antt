-- `rule_node::narrowing::parallel` meets its contract: the cases of `parallel_of`: x with y's constant in the place of its own equals y, where both are linear tests and y's constant is larger.
use native.Mathlib.Omega.{arith}
use Rattle.table.proofs.Tests.{kind_yes, kind_no}
use Rattle.rule_node.proofs.Parallels.{first_not, second_not, constant_not, constant_larger}
use Rattle.rule_node.proofs.narrowing.parallel.Goals as goal

pub returns-then-x-ne2 : goal.returns-then-x-ne2
returns-then-x-ne2 c = first_not c.args.x c.args.y (kind_no 2 c.args.x.kind c.if-x-ne2.true)

pub returns-then-y-ne2 : goal.returns-then-y-ne2
returns-then-y-ne2 c = second_not c.args.x c.args.y (kind_no 2 c.args.y.kind c.if-y-ne2.true)

pub returns-then-c-d : goal.returns-then-c-d
returns-then-c-d c = constant_larger c.args.x c.args.y (kind_yes 2 (omega arith) c.args.x.kind c.struct_told-1.given.0.1 c.if-x-ne2.false)
    (kind_yes 2 (omega arith) c.args.y.kind c.struct_told-2-1.given.0.1 c.if-y-ne2.false)
    c.c-1.given c.d-1.given c.struct_told-1.given.1.0.1.0.1
    c.struct_told-2-1.given.1.0.1.0.1 c.if-c-d.true c.equal.ensures

pub returns : goal.returns
returns c = constant_not c.args.x c.args.y (kind_yes 2 (omega arith) c.args.x.kind c.struct_told-1.given.0.1 c.if-x-ne2.false)
    (kind_yes 2 (omega arith) c.args.y.kind c.struct_told-2-1.given.0.1 c.if-y-ne2.false)
    c.c-1.given c.d-1.given c.if-c-d.false
